-- What the workers need, and what they did with their passes.
use Rattle.std.proofs.Common.{ℕ, ◌≡◌, ◌∙◌, ◌+◌, ◌≤◌, ◌<◌, ◌++◌, List, [], ◌∷◌, length, map, refl, sym, ap, subst, arith, append-nil, append_assoc}
use mathlib.Core.List.{IsPrefix}
use Rattle.cluster.specs.declared.entry.Entry.{Entry}
use Rattle.crew.specs.Chains.{AllRan, AllReady, Ran, Ready}
use Rattle.turn_lock.specs.Known.{IsFree, IsOf, Known, Opened}
use Rattle.api_server.specs.declared.share_end.ShareEnd.{ShareEnd}
use Rattle.api_server.specs.Talks.{AtDoor, Talk, Terms}
use Rattle.api_server.specs.Parts.{AllDid, Part, added_of, talks_of}
use Rattle.sched_job.specs.Passes.{AllBegin, AreFree, AreFresh, owns, shares}
use Rattle.api_server.specs.Together.{AreOpened, AreShifts, flat_talks}
use Rattle.api_server.specs.Workers.{Gives, Hired, Needs, hired_lists}
use Rattle.api_server.proofs.Chaining.{Makes, prefix_trans}
use Rattle.api_server.proofs.Parting.{Parted, part_all}
use Rattle.api_server.proofs.Shifts.{Did, shift_of}

abbrev pub needs_by : {J : Type 0} → (J → Hired) → J → Known Entry → Type 0
needs_by view j p = Needs (view j) p

abbrev pub gives_by : {J X : Type 0} → (J → Hired) → (X → AtDoor) → (X → ShareEnd) → J → Known Entry → X → Known Entry → Type 0
gives_by view now_of end_of j p x q = Gives (view j) p (now_of x) (end_of x) q

pub head_is : {A : Type 0} (x y : A) (xs ys : List A) → x ∷ xs ≡ y ∷ ys → x ≡ y
head_is x y xs ys e = cc

pub tail_is : {A : Type 0} (x y : A) (xs ys : List A) → x ∷ xs ≡ y ∷ ys → xs ≡ ys
tail_is x y xs ys e = cc

pub some_none : {A : Type 0} (x : A) (xs : List A) → x ∷ xs ≡ [] → ⊥
some_none x xs e = absurd (let n : length (x ∷ xs) ≡ 0 = ap length e in omega arith)

-- a list of one worker
pub one_job : {J : Type 0} (view : J → Hired) (l : List J) (w : Hired) → map view l ≡ w ∷ [] → (j : J) × (l ≡ j ∷ []) × (view j ≡ w)
one_job view [] w e = absurd (some_none w [] (sym e))
one_job view (j ∷ []) w e = (j, refl, head_is (view j) w [] [] e)
one_job view (j ∷ k ∷ l) w e = absurd (some_none (view k) (map view l) (tail_is (view j) w (view k ∷ map view l) [] e))

module _ {J X : Type 0} (view : J → Hired) (now_of : X → AtDoor) (end_of : X → ShareEnd) (lock : Opened Entry) (t : Terms) (n last : ℕ) where
  pub all_ready : (i : ℕ) (ls : List (List J)) (ds : List AtDoor) (ps : List (Known Entry)) → map (map view) ls ≡ hired_lists lock t n last i ds → AreOpened i n last ds → i + length ds ≤ n → n ≤ 64 → last ≤ 65535 → 0 < t.attempts → length ds ≡ length ps → AreFresh lock ps
      → AllReady (needs_by view) (gives_by view now_of end_of) ls ps
  all_ready i [] [] [] e new le most low some len fresh = tt
  all_ready i [] [] (p ∷ ps) e new le most low some len fresh = absurd (omega arith)
  all_ready i [] (d ∷ ds) ps e new le most low some len fresh = absurd (some_none _ _ (sym e))
  all_ready i (l ∷ ls) [] ps e new le most low some len fresh = absurd (some_none _ _ e)
  all_ready i (l ∷ ls) (d ∷ ds) [] e new le most low some len fresh = absurd (omega arith)
  all_ready i (l ∷ ls) (d ∷ ds) (p ∷ ps) e new le most low some len fresh =
      let w : Hired = record { lock = lock; terms = t; worker = i; workers = n; connections = last; door = d } in
      let o = one_job view l w (head_is (map view l) (w ∷ []) (map (map view) ls) (hired_lists lock t n last (i + 1) ds) e) in
      let ready : Needs w p = record { of = fresh.0.0; free = fresh.0.1; some = some; below = omega arith; most = most; last = low; share_is = new.0.share } in (
        subst (λ (xs : List J). Ready (needs_by view) (gives_by view now_of end_of) xs p) (sym o.1) (subst (λ (v : Hired). Needs v p) (sym o.2) ready, λ x q g. tt),
        all_ready (i + 1) ls ds ps (tail_is (map view l) (w ∷ []) (map (map view) ls) (hired_lists lock t n last (i + 1) ds) e) new.1 (omega arith) most low some (omega arith) fresh.1,
      )

  -- ---- one lane

  one_ran : (j : J) (xs : List X) (p q : Known Entry) → Ran (needs_by view) (gives_by view now_of end_of) (j ∷ []) xs p q → (x : X) × (xs ≡ x ∷ []) × Gives (view j) p (now_of x) (end_of x) q
  one_ran j [] p q ran = absurd ran
  one_ran j (x ∷ []) p q ran = (x, refl, subst (λ (k : Known Entry). Gives (view j) p (now_of x) (end_of x) k) ran.2 ran.1)
  one_ran j (x ∷ y ∷ ys) p q ran = absurd ran.2

-- ---- parts

pub did_append : (t : Terms) (number : ℕ) (h : List Entry) (ps qs : List Part) → AllDid t number h ps → AllDid t number h qs → AllDid t number h (ps ++ qs)
did_append t number h [] qs a b = b
did_append t number h (p ∷ ps) qs a b = (a.0, did_append t number h ps qs a.1 b)

talks_append : (ps qs : List Part) → talks_of (ps ++ qs) ≡ talks_of ps ++ talks_of qs
talks_append [] qs = refl
talks_append (p ∷ ps) qs = ap (λ (ks : List Talk). p.talk ∷ ks) (talks_append ps qs)

added_append : (ps qs : List Part) → added_of (ps ++ qs) ≡ added_of ps ++ added_of qs
added_append [] qs = refl
added_append (p ∷ ps) qs = ap (λ (ns : List ℕ). p.added ++ ns) (added_append ps qs) ∙ sym (append_assoc p.added (added_of ps) (added_of qs))

-- ---- all lanes

-- the parts of all connections, in a history that begins with what each pass saw last
pub record LaneParts (t : Terms) (number : ℕ) (h : List Entry) (kss : List (List Talk)) (qs : List (Known Entry)) : Type 0 where
  pub parts : List Part
  pub did : AllDid t number h parts
  pub talks_are : talks_of parts ≡ flat_talks kss
  pub own : owns qs ≡ added_of parts

pub record LanesDid (t : Terms) (lock : Opened Entry) (ds nows : List AtDoor) (ends : List ShareEnd) (ps qs : List (Known Entry)) : Type 0 where
  pub kss : List (List Talk)
  pub are : AreShifts ds nows kss ends
  pub did : (h : List Entry) → AllBegin qs h → LaneParts t lock.number h kss qs
  pub share : shares qs ≡ shares ps
  pub free : AreFree lock qs
  pub as_many : length qs ≡ length ps
  pub begins : (h : List Entry) → 0 < length ps → AllBegin qs h → IsPrefix lock.opening h

-- one lane and the others
lane_more : Makes → (t : Terms) (lock : Opened Entry) (d now : AtDoor) (ds nows : List AtDoor) (e : ShareEnd) (es : List ShareEnd) (p q : Known Entry) (ps qs : List (Known Entry)) → IsOf lock p × IsFree p × (p.front ≡ lock.opening) × (p.own ≡ []) → IsOf lock q → IsFree q → Did t p q d now e
    → LanesDid t lock ds nows es ps qs → LanesDid t lock (d ∷ ds) (now ∷ nows) (e ∷ es) (p ∷ ps) (q ∷ qs)
lane_more makes t lock d now ds nows e es p q ps qs fresh of free s rest =
    let here : Parted t lock.number q.front s.ks p q = part_all makes t lock.number q.front s.ks p q fresh.1 fresh.0.1 s.talks ([], append-nil q.front) in
    record {
      kss = s.ks ∷ rest.kss;
      are = (s.is, rest.are);
      did = λ h b.
          let one : Parted t lock.number h s.ks p q = part_all makes t lock.number h s.ks p q fresh.1 fresh.0.1 s.talks b.0 in
          let more : LaneParts t lock.number h rest.kss qs = rest.did h b.1 in record {
            parts = one.parts ++ more.parts;
            did = did_append t lock.number h one.parts more.parts one.did more.did;
            talks_are = talks_append one.parts more.parts ∙ ap (λ (ks : List Talk). ks ++ talks_of more.parts) one.talks_are ∙ ap (λ (ks : List Talk). s.ks ++ ks) more.talks_are;
            own = ap (λ (ns : List ℕ). ns ++ owns qs) (ap (λ (k : Known Entry). k.own) one.is ∙ ap (λ (ns : List ℕ). ns ++ added_of one.parts) fresh.3) ∙ ap (λ (ns : List ℕ). added_of one.parts ++ ns) more.own ∙ sym (added_append one.parts more.parts);
          };
      share = ap (λ (m : ℕ). m + shares qs) (ap (λ (k : Known Entry). k.share) here.is) ∙ ap (λ (m : ℕ). p.share + m) rest.share;
      free = ((of, free), rest.free);
      as_many = (let m = rest.as_many in omega arith);
      begins = λ h lt b. subst (λ (xs : List Entry). IsPrefix xs h) fresh.2 (prefix_trans p.front q.front h here.extends b.0);
    }

lanes_none : (t : Terms) (lock : Opened Entry) → LanesDid t lock [] [] [] [] []
lanes_none t lock = record { kss = []; are = tt; did = λ h b. record { parts = []; did = tt; talks_are = refl; own = refl }; share = refl; free = tt; as_many = refl; begins = λ h lt b. absurd (omega arith) }

module _ {J X : Type 0} (makes : Makes) (view : J → Hired) (now_of : X → AtDoor) (end_of : X → ShareEnd) (lock : Opened Entry) (t : Terms) (n last : ℕ) where
  pub lanes_did : (i : ℕ) (ls : List (List J)) (ds : List AtDoor) (ends : List X) (ps qs : List (Known Entry)) → map (map view) ls ≡ hired_lists lock t n last i ds → AreFresh lock ps → AllRan (needs_by view) (gives_by view now_of end_of) ls ends ps qs → LanesDid t lock ds (map now_of ends) (map end_of ends) ps qs
  lanes_did i [] [] ends [] [] e fresh ran = subst (λ (xs : List X). LanesDid t lock [] (map now_of xs) (map end_of xs) [] []) (sym ran) (lanes_none t lock)
  lanes_did i [] (d ∷ ds) ends ps qs e fresh ran = absurd (some_none _ _ (sym e))
  lanes_did i (l ∷ ls) [] ends ps qs e fresh ran = absurd (some_none _ _ e)
  lanes_did i [] [] ends (p ∷ ps) qs e fresh ran = absurd ran
  lanes_did i [] [] ends [] (q ∷ qs) e fresh ran = absurd ran
  lanes_did i (l ∷ ls) (d ∷ ds) ends [] qs e fresh ran = absurd ran
  lanes_did i (l ∷ ls) (d ∷ ds) ends (p ∷ ps) [] e fresh ran = absurd ran
  lanes_did i (l ∷ ls) (d ∷ ds) ends (p ∷ ps) (q ∷ qs) e fresh ran =
      let w : Hired = record { lock = lock; terms = t; worker = i; workers = n; connections = last; door = d } in
      let o = one_job view l w (head_is (map view l) (w ∷ []) (map (map view) ls) (hired_lists lock t n last (i + 1) ds) e) in
      let r = one_ran view now_of end_of lock t n last o.0 ran.0 p q (subst (λ (xs : List J). Ran (needs_by view) (gives_by view now_of end_of) xs ran.0 p q) o.1 ran.3) in
      let g : Gives w p (now_of r.0) (end_of r.0) q = subst (λ (v : Hired). Gives v p (now_of r.0) (end_of r.0) q) o.2 r.2 in
      let s : Did t p q d (now_of r.0) (end_of r.0) = shift_of t p q d (now_of r.0) (end_of r.0) g.did in
      let rest = lanes_did (i + 1) ls ds ran.1 ps qs (tail_is (map view l) (w ∷ []) (map (map view) ls) (hired_lists lock t n last (i + 1) ds) e) fresh.1 ran.4 in
      let is : r.0 ∷ ran.1 ≡ ends = ap (λ (xs : List X). xs ++ ran.1) (sym r.1) ∙ sym ran.2 in
      subst (λ (xs : List X). LanesDid t lock (d ∷ ds) (map now_of xs) (map end_of xs) (p ∷ ps) (q ∷ qs)) is
      (lane_more makes t lock d (now_of r.0) ds (map now_of ran.1) (end_of r.0) (map end_of ran.1) p q ps qs fresh.0 g.of g.free s rest)
