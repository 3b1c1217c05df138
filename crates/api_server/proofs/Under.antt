-- What workers leave of the passes and of the doors, whether or not they were begun.
use Rattle.std.proofs.Common.{ℕ, ◌≡◌, ◌∙◌, ◌+◌, ◌≤◌, ◌<◌, All, List, [], ◌∷◌, Result, Ok, Err, IfOk, IfErr, length, map, refl, sym, ap, subst, arith}
use Rattle.std.proofs.lemmas.List.Elements.{All-cons, All-nil}
use Rattle.crew.specs.Chains.{AllRan}
use mathlib.Core.List.{IsPrefix}
use Rattle.cluster.specs.declared.entry.Entry.{Entry}
use Rattle.turn_lock.specs.Known.{Known, Opened}
use Rattle.api_server.specs.declared.share_end.ShareEnd.{ShareEnd}
use Rattle.api_server.specs.declared.share_end.ShareEnd.TheVariants as share_end
use Rattle.api_server.specs.Talks.{AtDoor, Talk, Terms}
use Rattle.api_server.specs.Parts.{talks_of}
use Rattle.sched_job.specs.Passes.{AllBegin, AreFree, AreFresh, Joined, owns, shares}
use Rattle.api_server.specs.Together.{AreShifts, DidAll, Worked, flat_talks, worst}
use Rattle.api_server.specs.Workers.{Hired, IsShift, hired_lists}
use Rattle.api_server.specs.declared.serve_end.ServeEnd.{ServeEnd}
use Rattle.api_server.specs.declared.serve_end.ServeEnd.TheVariants as end
use Rattle.api_server.proofs.Chaining.{Makes}
use Rattle.api_server.proofs.Laning.{LanesDid, gives_by, head_is, lanes_did, needs_by, one_job, some_none, tail_is}
use Rattle.sched_job.proofs.Passing.{fresh_begins, fresh_free, fresh_owns}

-- no worker was begun
abbrev idle_talks : List AtDoor → List (List Talk)
idle_talks [] = []
idle_talks (d ∷ ds) = [] ∷ idle_talks ds

abbrev idle_ends : List AtDoor → List ShareEnd
idle_ends [] = []
idle_ends (d ∷ ds) = share_end.Memory ∷ idle_ends ds

idle_shifts : (ds : List AtDoor) → AreShifts ds ds (idle_talks ds) (idle_ends ds)
idle_shifts [] = tt
idle_shifts (d ∷ ds) = (record { next = tt; door = refl; ends = tt }, idle_shifts ds)

idle_flat : (ds : List AtDoor) → [] ≡ flat_talks (idle_talks ds)
idle_flat [] = refl
idle_flat (d ∷ ds) = idle_flat ds

idle_more : (ds : List AtDoor) → worst end.Memory (idle_ends ds) ≡ end.Memory
idle_more [] = refl
idle_more (d ∷ ds) = idle_more ds

idle_worst : (ds : List AtDoor) → 0 < length ds → end.Memory ≡ worst end.Served (idle_ends ds)
idle_worst [] lt = absurd (omega (arith, lt))
idle_worst (d ∷ ds) lt = sym (idle_more ds)

pub idle_worked : (ds now : List AtDoor) → 0 < length ds → now ≡ ds → Worked ds now [] end.Memory
idle_worked ds now lt same = subst (λ (es : List AtDoor). Worked ds es [] end.Memory) (sym same) (record { shifts = idle_talks ds; ends = idle_ends ds; are = idle_shifts ds; talks_are = idle_flat ds; end_is = idle_worst ds lt })

-- nothing was done with the pass either
pub idle_all : (t : Terms) (lock : Opened Entry) (whole : Known Entry) (ds now : List AtDoor) → 0 < length ds → now ≡ ds → whole.own ≡ [] → DidAll t lock whole ds now end.Memory
idle_all t lock whole ds now lt same none = record { parts = []; did = tt; own = none; worked = idle_worked ds now lt same }

-- the workers of all doors ended
pub did_all : (t : Terms) (lock : Opened Entry) (ds now : List AtDoor) (ends : List ShareEnd) (e : ServeEnd) (ps qs : List (Known Entry)) (whole : Known Entry) → LanesDid t lock ds now ends ps qs → Joined lock qs whole → e ≡ worst end.Served ends → DidAll t lock whole ds now e
did_all t lock ds now ends e ps qs whole d j is =
    let l = d.did whole.front j.begin in record {
      parts = l.parts;
      did = l.did;
      own = j.own ∙ l.own;
      worked = record { shifts = d.kss; ends = ends; are = d.are; talks_are = l.talks_are; end_is = is };
    }

map_long : {A B : Type 0} (f : A → B) (xs : List A) → length (map f xs) ≡ length xs
map_long f [] = refl
map_long f (x ∷ xs) = let r = map_long f xs in omega (arith, r)

shifts_long : (ds now : List AtDoor) (kss : List (List Talk)) (xs : List ShareEnd) → AreShifts ds now kss xs → length now ≡ length ds
shifts_long [] [] [] [] are = refl
shifts_long [] [] [] (x ∷ xs) are = absurd are
shifts_long [] [] (ks ∷ kss) xs are = absurd are
shifts_long [] (e ∷ es) kss xs are = absurd are
shifts_long (d ∷ ds) [] kss xs are = absurd are
shifts_long (d ∷ ds) (e ∷ es) [] xs are = absurd are
shifts_long (d ∷ ds) (e ∷ es) (ks ∷ kss) [] are = absurd are
shifts_long (d ∷ ds) (e ∷ es) (ks ∷ kss) (x ∷ xs) are = let r = shifts_long ds es kss xs are.1 in omega (arith, r)

map_twice : {A B C : Type 0} (f : B → C) (g : A → B) (xs : List A) → map f (map g xs) ≡ map (λ x. f (g x)) xs
map_twice f g [] = refl
map_twice f g (x ∷ xs) = ap (λ ys. f (g x) ∷ ys) (map_twice f g xs)

-- ---- the passes after the crew, whether or not it ran the workers

pub record Left (lock : Opened Entry) (ps qs : List (Known Entry)) : Type 0 where
  pub free : AreFree lock qs
  pub as_many : length qs ≡ length ps
  pub share : shares qs ≡ shares ps
  pub begins : (h : List Entry) → AllBegin qs h → IsPrefix lock.opening h

unrun : (lock : Opened Entry) (ps qs : List (Known Entry)) → AreFresh lock ps → 0 < length ps → qs ≡ ps → Left lock ps qs
unrun lock ps qs fresh some same = record {
  free = subst (AreFree lock) (sym same) (fresh_free lock ps fresh);
  as_many = ap length same;
  share = ap shares same;
  begins = λ h b. fresh_begins lock ps h fresh some (subst (λ (ks : List (Known Entry)). AllBegin ks h) same b);
}

pub none_added : (lock : Opened Entry) (ps qs : List (Known Entry)) (whole : Known Entry) → AreFresh lock ps → qs ≡ ps → Joined lock qs whole → whole.own ≡ []
none_added lock ps qs whole fresh same j = j.own ∙ ap owns same ∙ fresh_owns lock ps fresh

module _ {J X : Type 0} (makes : Makes) (view : J → Hired) (now_of : X → AtDoor) (end_of : X → ShareEnd) (lock : Opened Entry) (t : Terms) (n last : ℕ) (ls : List (List J)) (ds : List AtDoor) (ps : List (Known Entry)) (hired : map (map view) ls ≡ hired_lists lock t n last 0 ds) (fresh : AreFresh lock ps) where
  pub left_by : {A B : Type 0} (items : A → List X) (U : B → Type 0) (qs : List (Known Entry)) (r : Result A B) → 0 < length ps → IfOk r (λ ends. AllRan (needs_by view) (gives_by view now_of end_of) ls (items ends) ps qs) → IfErr r (λ u. U u × (qs ≡ ps)) → Left lock ps qs
  left_by items U qs (Ok ends) some ran not_ =
      let d = lanes_did makes view now_of end_of lock t n last 0 ls ds (items ends) ps qs hired fresh ran in
      record { free = d.free; as_many = d.as_many; share = d.share; begins = λ h b. d.begins h some b }
  left_by items U qs (Err u) some ran not_ = unrun lock ps qs fresh some not_.1

  pub ends_long : (ends : List X) (qs : List (Known Entry)) → AllRan (needs_by view) (gives_by view now_of end_of) ls ends ps qs → length ends ≡ length ds
  ends_long ends qs ran =
      let d = lanes_did makes view now_of end_of lock t n last 0 ls ds ends ps qs hired fresh ran in
      let a = shifts_long ds (map now_of ends) d.kss (map end_of ends) d.are in
      let b = map_long now_of ends in
      omega (arith, a, b)

  pub did_by : (ends : List X) (qs : List (Known Entry)) (whole : Known Entry) (e : ServeEnd) (now : List AtDoor) → AllRan (needs_by view) (gives_by view now_of end_of) ls ends ps qs → Joined lock qs whole → e ≡ worst end.Served (map end_of ends) → now ≡ map now_of ends → DidAll t lock whole ds now e
  did_by ends qs whole e now ran j is same =
      let d = lanes_did makes view now_of end_of lock t n last 0 ls ds ends ps qs hired fresh ran in
      did_all t lock ds now (map end_of ends) e ps qs whole (subst (λ (es : List AtDoor). LanesDid t lock ds es (map end_of ends) ps qs) (sym same) d) j is

-- ---- the doors of workers that weren't begun

module _ {J D : Type 0} (view : J → Hired) (door : J → D) (at : D → AtDoor) (same : (j : J) → (view j).door ≡ at (door j)) (lock : Opened Entry) (t : Terms) (n last : ℕ) where
  pub doors_back : (i : ℕ) (ls : List (List J)) (ds : List AtDoor) (res : List D) → map (map view) ls ≡ hired_lists lock t n last i ds → map (λ d. d ∷ []) res ≡ map (map door) ls → map at res ≡ ds
  doors_back i [] [] [] e back = refl
  doors_back i [] [] (r ∷ res) e back = absurd (some_none _ _ back)
  doors_back i [] (d ∷ ds) res e back = absurd (some_none _ _ (sym e))
  doors_back i (l ∷ ls) [] res e back = absurd (some_none _ _ e)
  doors_back i (l ∷ ls) (d ∷ ds) [] e back = absurd (some_none _ _ (sym back))
  doors_back i (l ∷ ls) (d ∷ ds) (r ∷ res) e back =
      let w : Hired = record { lock = lock; terms = t; worker = i; workers = n; connections = last; door = d } in
      let o = one_job view l w (head_is (map view l) (w ∷ []) (map (map view) ls) (hired_lists lock t n last (i + 1) ds) e) in
      let rest = doors_back (i + 1) ls ds res (tail_is (map view l) (w ∷ []) (map (map view) ls) (hired_lists lock t n last (i + 1) ds) e) (tail_is (r ∷ []) (map door l) (map (λ x. x ∷ []) res) (map (map door) ls) back) in
      let mine : r ∷ [] ≡ door o.0 ∷ [] = head_is (r ∷ []) (map door l) (map (λ x. x ∷ []) res) (map (map door) ls) back ∙ ap (map door) o.1 in
      let first : at r ≡ d = ap at (head_is r (door o.0) [] [] mine) ∙ sym (same o.0) ∙ ap (λ (h : Hired). h.door) o.2 in
      ap (λ (x : AtDoor). x ∷ map at res) first ∙ ap (λ (xs : List AtDoor). d ∷ xs) rest

  pub doors_again : {V : Type 0} (f : V → List J) (vs ws : List V) (ds : List AtDoor) (res : List D) → map (map view) (map f vs) ≡ hired_lists lock t n last 0 ds → ws ≡ vs → map (λ d. d ∷ []) res ≡ map (λ v. map door (f v)) ws → map at res ≡ ds
  doors_again f vs ws ds res e is back = doors_back 0 (map f vs) ds res e (back ∙ ap (map (λ v. map door (f v))) is ∙ sym (map_twice (map door) f vs))

  pub one_each : {V : Type 0} (f : V → List J) (i : ℕ) (vs : List V) (ds : List AtDoor) → map (map view) (map f vs) ≡ hired_lists lock t n last i ds → All (λ v. length (f v) ≡ 1) vs
  one_each f i [] ds e = All-nil (λ v. length (f v) ≡ 1)
  one_each f i (v ∷ vs) [] e = absurd (some_none _ _ e)
  one_each f i (v ∷ vs) (d ∷ ds) e =
      let w : Hired = record { lock = lock; terms = t; worker = i; workers = n; connections = last; door = d } in
      let o = one_job view (f v) w (head_is (map view (f v)) (w ∷ []) (map (map view) (map f vs)) (hired_lists lock t n last (i + 1) ds) e) in
      All-cons (λ x. length (f x) ≡ 1) v vs (ap length o.1) (one_each f (i + 1) vs ds (tail_is (map view (f v)) (w ∷ []) (map (map view) (map f vs)) (hired_lists lock t n last (i + 1) ds) e))

-- the doors of workers that have ended
pub doors_seen : {X D : Type 0} (at : D → AtDoor) (door : X → D) (ends : List X) (res : List D) → res ≡ map door ends → map at res ≡ map (λ x. at (door x)) ends
doors_seen at door ends res is = ap (map at) is ∙ map_twice at door ends

hired_long : (lock : Opened Entry) (t : Terms) (n last i : ℕ) (ds : List AtDoor) → length (hired_lists lock t n last i ds) ≡ length ds
hired_long lock t n last i [] = refl
hired_long lock t n last i (d ∷ ds) = let r = hired_long lock t n last (i + 1) ds in omega (arith, r)

-- as many lists as doors
pub as_many_lists : {J V : Type 0} (view : J → Hired) (f : V → List J) (lock : Opened Entry) (t : Terms) (n last i : ℕ) (vs : List V) (ds : List AtDoor) → map (map view) (map f vs) ≡ hired_lists lock t n last i ds → length vs ≡ length ds
as_many_lists view f lock t n last i vs ds e =
    let a = map_long (map view) (map f vs) in
    let b = map_long f vs in
    let c = hired_long lock t n last i ds in
    let d : length (map (map view) (map f vs)) ≡ length (hired_lists lock t n last i ds) = ap length e in
    omega (arith, a, b, c, d)

pub seen_long : {D : Type 0} (at : D → AtDoor) (ds : List D) (n : ℕ) → length ds ≡ n → length (map at ds) ≡ n
seen_long at ds n is = map_long at ds ∙ is
