-- What the doors expose once they are closed, and how the server ended.
use Rattle.std.proofs.Common.{ℕ, zero, suc, ◌≡◌, ◌∙◌, ◌⊎◌, inl, inr, ◌+◌, ◌-◌, ◌^◌, ◌≤◌, ◌<◌, ◌++◌, Bool, true, false, not, nat_eq, ◌||◌, List, [], ◌∷◌, Option, None, Some, Result, Ok, Err, get_or, length, map, min, refl, sym, ap, subst, arith, length-append}
use Rattle.std.proofs.lemmas.List.Sums.{sum_by-cons}
use Rattle.std.specs.Bool.{OnFalse, OnTrue}
use Rattle.std.specs.List.{list_any, sum_by}
use mathlib.Core.List.{IsPrefix}
use Rattle.cluster.specs.declared.entry.Entry.{Entry}
use Rattle.histories.specs.Histories.{Each}
use Rattle.histories.specs.Legal.{Legal}
use Rattle.api_server.specs.Ledgers.{History}
use Rattle.turn_lock.specs.Known.{Known, Opened}
use Rattle.turn_lock.specs.Places.{OwnsAll}
use Rattle.std.specs.Prelude.{IsErrOf}
use Rattle.dra_ports.specs.Causes.{HasCause, Rose}
use Rattle.dra_ports.specs.declared.error.PortError.{PortError}
use Rattle.dra_ports.specs.declared.error.PortError.TheVariants as port
use Rattle.door_ports.specs.Shares.{IsNew, any_failed, share_of}
use Rattle.door_ports.specs.Visits.{Ended, handed_on, joined}
use Rattle.api_server.specs.declared.end.ConnEnd.TheVariants as conn_end
use Rattle.api_server.specs.declared.share_end.ShareEnd.{ShareEnd}
use Rattle.api_server.specs.declared.share_end.ShareEnd.TheVariants as share_end
use Rattle.api_server.specs.Talks.{AtDoor, Talk, Terms, after_talks}
use Rattle.api_server.specs.Parts.{talks_of}
use Rattle.api_server.specs.Together.{AreOpened, AreShifts, DidAll, Ran, Worked, flat_talks, unopened, worst}
use Rattle.api_server.specs.Whole.{AllStandIn, AreAll, EndsSo, IsOfTalk, MadeBy, Serves, Tells}
use Rattle.api_server.specs.Workers.{AllKept, EndsShift, HasEnd, IsShift}
use Rattle.api_server.specs.declared.serve_end.ServeEnd.{ServeEnd}
use Rattle.api_server.specs.declared.serve_end.ServeEnd.TheVariants as end
use Rattle.api_server.proofs.Ending.{AllServed, all_go_on, are_all, worst_served}
use Rattle.api_server.proofs.Failing.{AllQuiet, Has, worst_door, worst_limit}
use Rattle.api_server.proofs.Faults.{count, none_failed, some_failed}
use Rattle.api_server.proofs.Gathering.{made_by}
use Rattle.api_server.proofs.Shifts.{all_kept}
use Rattle.api_server.proofs.Telling.{lane_tells, served_after, tells_join, tells_none}
use Rattle.api_server.proofs.Under.{idle_worked}

-- ---- doors that were opened

module _ {D : Type 0} (view : D → AtDoor) where
  -- each of them is new
  pub are_opened : (i n last : ℕ) (ds : List D) → ((k : ℕ) (d : D) → k < length ds → IsNew (share_of (i + k) n last) (view (get_or ds k d)).share (view (get_or ds k d)).in_service (view (get_or ds k d)).served (view (get_or ds k d)).faults (view (get_or ds k d)).ended) → AreOpened i n last (map view ds)
  are_opened i n last [] new = tt
  are_opened i n last (d ∷ ds) new = (
    subst (λ (m : ℕ). IsNew (share_of m n last) (view d).share (view d).in_service (view d).served (view d).faults (view d).ended) (omega arith) (new 0 d (omega arith)),
    are_opened (i + 1) n last ds (λ k e lt. subst (λ (m : ℕ). IsNew (share_of m n last) (view (get_or ds k e)).share (view (get_or ds k e)).in_service (view (get_or ds k e)).served (view (get_or ds k e)).faults (view (get_or ds k e)).ended) (omega arith) (new (suc k) e (omega (arith, lt)))),
  )

  pub opened_all : (n last : ℕ) (ds : List D) → length ds ≡ n → ((k : ℕ) (d : D) → k < n → IsNew (share_of k n last) (view (get_or ds k d)).share (view (get_or ds k d)).in_service (view (get_or ds k d)).served (view (get_or ds k d)).faults (view (get_or ds k d)).ended) → AreOpened 0 n last (map view ds)
  opened_all n last ds many new =
      are_opened 0 n last ds (λ k d lt. subst (λ (m : ℕ). IsNew (share_of m n last) (view (get_or ds k d)).share (view (get_or ds k d)).in_service (view (get_or ds k d)).served (view (get_or ds k d)).faults (view (get_or ds k d)).ended) (omega arith) (new k d (omega (arith, lt, many))))

  pub sum_view : (ds : List D) → sum_by (λ d. (view d).served) ds ≡ sum_by (λ (d : AtDoor). d.served) (map view ds)
  sum_view [] = refl
  sum_view (d ∷ ds) = sum_by-cons (λ x. (view x).served) d ds ∙ ap (λ (m : ℕ). (view d).served + m) (sum_view ds) ∙ sym (sum_by-cons (λ (x : AtDoor). x.served) (view d) (map view ds))

  pub ended_view : (ds : List D) → map (λ d. (view d).ended) ds ≡ map (λ (d : AtDoor). d.ended) (map view ds)
  ended_view [] = refl
  ended_view (d ∷ ds) = ap (λ (xs : List (Option (List Ended))). (view d).ended ∷ xs) (ended_view ds)

  pub failed_view : (ds : List D) → any_failed (λ d. (view d).faults) ds ≡ any_failed count (map view ds)
  failed_view [] = refl
  failed_view (d ∷ ds) = ap (λ (b : Bool). not (nat_eq (view d).faults 0) || b) (failed_view ds)

-- ---- what they expose

length_both : (ks js : List Talk) → length (ks ++ js) ≡ length ks + length js
length_both ks js = length-append ks js

pub served_sum : (i n last : ℕ) (ds now : List AtDoor) (kss : List (List Talk)) (xs : List ShareEnd) → AreOpened i n last ds → AreShifts ds now kss xs → sum_by (λ (d : AtDoor). d.served) now ≡ length (flat_talks kss)
served_sum i n last [] [] [] [] new are = refl
served_sum i n last [] [] [] (x ∷ xs) new are = absurd are
served_sum i n last [] [] (ks ∷ kss) xs new are = absurd are
served_sum i n last [] (e ∷ es) kss xs new are = absurd are
served_sum i n last (d ∷ ds) [] kss xs new are = absurd are
served_sum i n last (d ∷ ds) (e ∷ es) [] xs new are = absurd are
served_sum i n last (d ∷ ds) (e ∷ es) (ks ∷ kss) [] new are = absurd are
served_sum i n last (d ∷ ds) (e ∷ es) (ks ∷ kss) (x ∷ xs) new are =
    let r = served_sum (i + 1) n last ds es kss xs new.1 are.1 in
    let here : e.served ≡ (after_talks d ks).served = ap (λ (a : AtDoor). a.served) are.0.door in
    let all = served_after d ks in
    let none = new.0.served in
    let both = length_both ks (flat_talks kss) in
    let sum = sum_by-cons (λ (a : AtDoor). a.served) e es in
    omega (arith, r, here, all, none, both, sum)

tells_lane : (d e : AtDoor) (ks : List Talk) → e ≡ record (after_talks d ks) { faults = e.faults } → Tells d.ended e.ended ks
tells_lane d e ks is = subst (λ (o : Option (List Ended)). Tells d.ended o ks) (sym (ap (λ (a : AtDoor). a.ended) is)) (lane_tells d ks)

pub tells_all : (i n last : ℕ) (old : Option (List Ended)) (ds now : List AtDoor) (kss : List (List Talk)) (xs : List ShareEnd) → AreOpened i n last ds → AreShifts ds now kss xs → Tells old (handed_on old (map (λ (d : AtDoor). d.ended) now)) (flat_talks kss)
unfolding handed_on
tells_all i n last old [] [] [] [] new are = tells_none old
tells_all i n last old [] [] [] (x ∷ xs) new are = absurd are
tells_all i n last old [] [] (ks ∷ kss) xs new are = absurd are
tells_all i n last old [] (e ∷ es) kss xs new are = absurd are
tells_all i n last old (d ∷ ds) [] kss xs new are = absurd are
tells_all i n last old (d ∷ ds) (e ∷ es) [] xs new are = absurd are
tells_all i n last old (d ∷ ds) (e ∷ es) (ks ∷ kss) [] new are = absurd are
tells_all i n last old (d ∷ ds) (e ∷ es) (ks ∷ kss) (x ∷ xs) new are =
    tells_join old (joined old e.ended) e.ended (handed_on (joined old e.ended) (map (λ (a : AtDoor). a.ended) es)) d.ended ks (flat_talks kss) new.0.ended (tells_lane d e ks are.0.door) refl (tells_all (i + 1) n last (joined old e.ended) ds es kss xs new.1 are.1)

-- ---- how it ended

served_quiet : (xs : List ShareEnd) → AllServed xs → AllQuiet xs
served_quiet [] s = tt
served_quiet (x ∷ xs) s = (subst Rattle.api_server.proofs.Failing.Quiet (sym s.0) tt, served_quiet xs s.1)

kept_append : (ks js : List Talk) → AllKept ks → AllKept js → AllKept (ks ++ js)
kept_append [] js a b = b
kept_append (k ∷ ks) js a b = (a.0, kept_append ks js a.1 b)

end_left : (e : Rattle.api_server.specs.declared.end.ConnEnd.ConnEnd) (ks js : List Talk) → HasEnd e ks → HasEnd e (ks ++ js)
end_left e [] js has = absurd has
end_left e (k ∷ ks) js (inl is) = inl is
end_left e (k ∷ ks) js (inr has) = inr (end_left e ks js has)

end_right : (e : Rattle.api_server.specs.declared.end.ConnEnd.ConnEnd) (ks js : List Talk) → HasEnd e js → HasEnd e (ks ++ js)
end_right e [] js has = has
end_right e (k ∷ ks) js has = inr (end_right e ks js has)

lane_kept : (ks : List Talk) (before : ℕ) (now : AtDoor) (x : ShareEnd) → Rattle.api_server.proofs.Failing.Quiet x → EndsShift ks before now x → AllKept ks
lane_kept ks before now share_end.Served q e = all_kept ks e.0
lane_kept ks before now (share_end.Full n) q e = e.1
lane_kept ks before now share_end.Door q e = absurd q
lane_kept ks before now share_end.Memory q e = absurd q

kept_all : (ds now : List AtDoor) (kss : List (List Talk)) (xs : List ShareEnd) → AreShifts ds now kss xs → AllQuiet xs → AllKept (flat_talks kss)
kept_all [] [] [] [] are quiet = tt
kept_all [] [] [] (x ∷ xs) are quiet = absurd are
kept_all [] [] (ks ∷ kss) xs are quiet = absurd are
kept_all [] (e ∷ es) kss xs are quiet = absurd are
kept_all (d ∷ ds) [] kss xs are quiet = absurd are
kept_all (d ∷ ds) (e ∷ es) [] xs are quiet = absurd are
kept_all (d ∷ ds) (e ∷ es) (ks ∷ kss) [] are quiet = absurd are
kept_all (d ∷ ds) (e ∷ es) (ks ∷ kss) (x ∷ xs) are quiet = kept_append ks (flat_talks kss) (lane_kept ks d.faults e x quiet.0 are.0.ends) (kept_all ds es kss xs are.1 quiet.1)

full_some : (n : ℕ) (ds now : List AtDoor) (kss : List (List Talk)) (xs : List ShareEnd) → AreShifts ds now kss xs → Has (share_end.Full n) xs → HasEnd (conn_end.Full n) (flat_talks kss)
full_some n ds now kss [] are has = absurd has
full_some n [] [] [] (x ∷ xs) are has = absurd are
full_some n [] [] (ks ∷ kss) (x ∷ xs) are has = absurd are
full_some n [] (e ∷ es) kss (x ∷ xs) are has = absurd are
full_some n (d ∷ ds) [] kss (x ∷ xs) are has = absurd are
full_some n (d ∷ ds) (e ∷ es) [] (x ∷ xs) are has = absurd are
full_some n (d ∷ ds) (e ∷ es) (ks ∷ kss) (x ∷ xs) are (inl is) = end_left (conn_end.Full n) ks (flat_talks kss) (subst (EndsShift ks d.faults e) is are.0.ends).0
full_some n (d ∷ ds) (e ∷ es) (ks ∷ kss) (x ∷ xs) are (inr has) = end_right (conn_end.Full n) ks (flat_talks kss) (full_some n ds es kss xs are.1 has)

on_true : {P : Type 0} (b : Bool) → b ≡ true → OnTrue b P → P
on_true true e p = p
on_true false e p = absurd (cc)

on_false : {P : Type 0} (b : Bool) → b ≡ false → OnFalse b P → P
on_false false e p = p
on_false true e p = absurd (cc)

-- how it ended, with the doors' count of errors
pub ends_so : (n last before after : ℕ) (ds now : List AtDoor) (ks : List Talk) (e : ServeEnd) → Worked ds now ks e → AreOpened 0 n last ds → length ds ≡ n → 0 < n → before ≤ after → OnTrue (any_failed count now) (Rose before after) → OnFalse (any_failed count now) (after ≡ before) → EndsSo last ks before after e
ends_so n last before after ds now ks end.Served w new many some later rose same =
    let all = (worst_served end.Served w.ends (sym w.end_is)).1 in (
      subst Rattle.api_server.specs.Talks.AllGoOn (sym w.talks_are) (all_go_on ds now w.shifts w.ends w.are all),
      subst (AreAll last) (sym w.talks_are) (are_all n last ds now w.shifts w.ends new w.are all many some),
      on_false (any_failed count now) (none_failed 0 n last ds now w.shifts w.ends new w.are (served_quiet w.ends all)) same,
    )
ends_so n last before after ds now ks end.Memory w new many some later rose same = later
ends_so n last before after ds now ks end.Door w new many some later rose same = (pick (worst_door end.Served w.ends (sym w.end_is)), later)
  where
    pick : (end.Served ≡ end.Door) ⊎ Has share_end.Door w.ends → Rose before after
    pick (inl is) = absurd (cc)
    pick (inr has) = on_true (any_failed count now) (some_failed 0 n last ds now w.shifts w.ends new w.are has) rose
ends_so n last before after ds now ks (end.Limit m) w new many some later rose same =
    let r = worst_limit end.Served w.ends m (sym w.end_is) in (
      subst (HasEnd (conn_end.Full m)) (sym w.talks_are) (pick r.0),
      subst AllKept (sym w.talks_are) (kept_all ds now w.shifts w.ends w.are r.2),
      on_false (any_failed count now) (none_failed 0 n last ds now w.shifts w.ends new w.are r.2) same,
    )
  where
    pick : (end.Served ≡ end.Limit m) ⊎ Has (share_end.Full m) w.ends → HasEnd (conn_end.Full m) (flat_talks w.shifts)
    pick (inl is) = absurd (cc)
    pick (inr has) = full_some m ds now w.shifts w.ends w.are has

-- ---- all

pub shifts_same : (ds now : List AtDoor) (kss : List (List Talk)) (xs : List ShareEnd) → AreShifts ds now kss xs → length now ≡ length ds
shifts_same [] [] [] [] are = refl
shifts_same [] [] [] (x ∷ xs) are = absurd are
shifts_same [] [] (ks ∷ kss) xs are = absurd are
shifts_same [] (e ∷ es) kss xs are = absurd are
shifts_same (d ∷ ds) [] kss xs are = absurd are
shifts_same (d ∷ ds) (e ∷ es) [] xs are = absurd are
shifts_same (d ∷ ds) (e ∷ es) (ks ∷ kss) [] are = absurd are
shifts_same (d ∷ ds) (e ∷ es) (ks ∷ kss) (x ∷ xs) are = let r = shifts_same ds es kss xs are.1 in omega (arith, r)

-- nothing was made of an empty history
each_none : (P : List Entry → Entry → Type 0) → Each P [] []
unfolding Each
each_none P = tt

pub made_none : (t : Terms) (limit : ℕ) (h : History) → h.entries ≡ [] → h.limit ≡ limit → Legal h.entries → length h.entries ≤ limit → MadeBy t limit h []
made_none t limit h none limit_is legal within = record {
  legal = legal;
  limit_is = limit_is;
  within = within;
  stand = tt;
  no_other = subst (Each (λ before e. IsOfTalk [] e) []) (sym none) (each_none (λ before e. IsOfTalk [] e));
}

pub ran_none : (t : Terms) (limit : ℕ) (h : History) (ds : List AtDoor) → h.entries ≡ [] → h.limit ≡ limit → Legal h.entries → length h.entries ≤ limit → 0 < length ds → Ran t limit h ds ds end.Memory
ran_none t limit h ds none limit_is legal within some = record { ks = []; made = made_none t limit h none limit_is legal within; worked = idle_worked ds ds some refl }

-- what workers made, when the lock is closed
pub ran_all : (t : Terms) (lock : Opened Entry) (h : History) (whole : Known Entry) (ds now : List AtDoor) (e : ServeEnd) (n last limit : ℕ) → DidAll t lock whole ds now e → lock.opening ≡ [] → IsPrefix whole.front h.entries → OwnsAll lock.opening h.entries whole.own → Legal h.entries → h.limit ≡ limit → lock.number ≡ limit
    → length h.entries ≤ limit → AreOpened 0 n last ds → length ds ≡ n → Ran t limit h ds now e
ran_all t lock h whole ds now e n last limit d empty pre owns legal limit_is number_is within new many = record {
  ks = talks_of d.parts;
  made = made_by t lock h whole ds now e n last limit d empty pre owns legal limit_is number_is within new many;
  worked = d.worked;
}

pub serves_all : (t : Terms) (n last limit before after served served' : ℕ) (h : History) (ds now : List AtDoor) (e : ServeEnd) (old new : Option (List Ended)) → Ran t limit h ds now e → AreOpened 0 n last ds → length ds ≡ n → 0 < n → before ≤ after → OnTrue (any_failed count now) (Rose before after) → OnFalse (any_failed count now) (after ≡ before)
    → served' ≡ min (served + sum_by (λ (d : AtDoor). d.served) now) (2 ^ 64 - 1) → new ≡ handed_on old (map (λ (d : AtDoor). d.ended) now) → Serves t last limit h served served' old new before after e
serves_all t n last limit before after served served' h ds now e old new r opened many some later rose same count_is told_is =
    let w = r.worked in
    let sum = served_sum 0 n last ds now w.shifts w.ends opened w.are in
    let tells = tells_all 0 n last old ds now w.shifts w.ends opened w.are in record {
      ks = r.ks;
      made = r.made;
      count = λ all. count_is ∙ ap (λ (m : ℕ). min (served + m) (2 ^ 64 - 1)) (sum ∙ ap length (sym w.talks_are));
      tells = subst (Tells old new) (sym w.talks_are) (subst (λ (o : Option (List Ended)). Tells old o (flat_talks w.shifts)) (sym told_is) tells);
      ends = ends_so n last before after ds now r.ks e w opened many some later rose same;
    }

-- no door was opened
pub serves_none : (t : Terms) (last limit before after served served' : ℕ) (h : History) (e : ServeEnd) (old new : Option (List Ended)) → h.entries ≡ [] → h.limit ≡ limit → Legal h.entries → length h.entries ≤ limit → (e ≡ end.Served → ⊥) → new ≡ old → EndsSo last [] before after e → Serves t last limit h served served' old new before after e
serves_none t last limit before after served served' h e old new none limit_is legal within other told ends = record {
  ks = [];
  made = made_none t limit h none limit_is legal within;
  count = λ is. absurd (other is);
  tells = subst (λ (o : Option (List Ended)). Tells old o []) (sym told) (tells_none old);
  ends = ends;
}

-- ---- the doors themselves

long_as : {D : Type 0} (view : D → AtDoor) (ds : List D) → length (map view ds) ≡ length ds
long_as view [] = refl
long_as view (d ∷ ds) = let r = long_as view ds in omega (arith, r)

pub back_long : {D : Type 0} (view : D → AtDoor) (ds es : List D) (ks : List Talk) (e : ServeEnd) → Worked (map view ds) (map view es) ks e → length es ≡ length ds
back_long view ds es ks e w = let s = shifts_same (map view ds) (map view es) w.shifts w.ends w.are in let a = long_as view ds in let b = long_as view es in omega (arith, s, a, b)

pub closes : {D : Type 0} (view : D → AtDoor) (t : Terms) (n last limit before mid after served served1 served' : ℕ) (h : History) (ds es : List D) (e : ServeEnd) (old one new : Option (List Ended)) → Ran t limit h (map view ds) (map view es) e → AreOpened 0 n last (map view ds) → length ds ≡ n → 0 < n → mid ≡ before → mid ≤ after
    → OnTrue (any_failed (λ d. (view d).faults) es) (Rose mid after) → OnFalse (any_failed (λ d. (view d).faults) es) (after ≡ mid) → served1 ≡ served → served' ≡ min (served1 + sum_by (λ d. (view d).served) es) (2 ^ 64 - 1) → one ≡ old → new ≡ handed_on one (map (λ d. (view d).ended) es)
    → Serves t last limit h served served' old new before after e
closes view t n last limit before mid after served served1 served' h ds es e old one new r opened many some same later rose quiet counted count_is told told_is =
    serves_all t n last limit before after served served' h (map view ds) (map view es) e old new r opened (long_as view ds ∙ many) some
    (subst (λ (m : ℕ). m ≤ after) same later)
    (subst (λ (m : ℕ). OnTrue (any_failed count (map view es)) (Rose m after)) same (subst (λ (b : Bool). OnTrue b (Rose mid after)) (failed_view view es) rose))
    (subst (λ (m : ℕ). OnFalse (any_failed count (map view es)) (after ≡ m)) same (subst (λ (b : Bool). OnFalse b (after ≡ mid)) (failed_view view es) quiet))
    (count_is ∙ ap (λ (m : ℕ). min (m + sum_by (λ d. (view d).served) es) (2 ^ 64 - 1)) counted ∙ ap (λ (m : ℕ). min (served + m) (2 ^ 64 - 1)) (sum_view view es))
    (told_is ∙ ap (λ (o : Option (List Ended)). handed_on o (map (λ d. (view d).ended) es)) told ∙ ap (handed_on old) (ended_view view es))

-- no door was opened, for this reason
pub no_doors : {T : Type 0} (last before after : ℕ) (r : Result T PortError) (error : PortError) (e : ServeEnd) → HasCause before after r → r ≡ Err error → e ≡ unopened error → EndsSo last [] before after e
no_doors last before after r port.Failed e cause is end_is = subst (EndsSo last [] before after) (sym end_is) (cause.failed (subst (λ x. IsErrOf x port.Failed) (sym is) refl), cause.later)
no_doors last before after r port.Memory e cause is end_is = subst (EndsSo last [] before after) (sym end_is) cause.later

pub not_served : (error : PortError) (e : ServeEnd) → e ≡ unopened error → e ≡ end.Served → ⊥
not_served port.Failed e a b = absurd (let f : end.Served ≡ end.Door = sym b ∙ a in cc)
not_served port.Memory e a b = absurd (let f : end.Served ≡ end.Memory = sym b ∙ a in cc)
