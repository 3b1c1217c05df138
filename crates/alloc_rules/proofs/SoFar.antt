-- The devices of results, held one after another.
use Rattle.std.proofs.Common.{ℕ, ◌+◌, ◌<◌, ◌≡◌, ◌∙◌, List, [], ◌∷◌, ◌++◌, Bool, true, false, not, ◌&&◌, cond, Option, None, Some, drop, find, get_or, length, map, take, refl, sym, ap, append_assoc}
use Rattle.std.specs.Option.{option_map}
use Rattle.object_fields.specs.declared.key.DeviceId.{DeviceId}
use Rattle.object_fields.specs.declared.key.Key.{Key}
use Rattle.pool_view.specs.Names.{device_eq}
use Rattle.counter_sets.specs.Holding.{AreHeld, Holders, holder_in}
use Rattle.request_rules.specs.Input.{SearchInput}
use Rattle.request_rules.specs.Lists.{or_else}
use Rattle.plan_rules.specs.Chosen.{Due}
use Rattle.alloc_rules.specs.Rows.{DueFields, due_seen, held_among, held_in, pair_of, pairs_of}
use Rattle.plan_rules.specs.Standing.{held, held_behind, held_by, held_from, holder_of, taker_of, takes}
use Rattle.cluster.specs.declared.failure.Failure.{Failure}
use Rattle.alloc_rules.proofs.Lists.{drop_next, take_next}

-- with those done, the rest decides as the whole did, by the holders and what those done have
pub record HeldSoFar (holders own : Holders) (ds done left : List DueFields) : Type 0 where
  pub found : (w : SearchInput) (pairs : List (DeviceId × Key)) → AreHeld holders pairs → held_from pairs (map (due_seen w) done) (map (due_seen w) left) ≡ held pairs (map (due_seen w) ds)
  pub kept : (w : SearchInput) → AreHeld own (pairs_of (map (due_seen w) done))

-- ---- holders of pairs

cond_else : (b : Bool) (k : Key) (o p : Option Key) → or_else (cond b (Some k) o) p ≡ cond b (Some k) (or_else o p)
cond_else true k o p = refl
cond_else false k o p = refl

joined_at : (ps qs : List (DeviceId × Key)) (id : DeviceId) → holder_of (ps ++ qs) id ≡ or_else (holder_of ps id) (holder_of qs id)
joined_at [] qs id = refl
joined_at (p ∷ ps) qs id =
    ap (λ (o : Option Key). cond (device_eq p.0 id) (Some p.1) o) (joined_at ps qs id) ∙ sym (cond_else (device_eq p.0 id) p.1 (holder_of ps id) (holder_of qs id))

pair_by : (admin b : Bool) (d : Due) (id : DeviceId) (ds : List Due) (later : Option Due) → d.result.admin ≡ admin → device_eq d.result.device id ≡ b → holder_of (pairs_of ds) id ≡ option_map (λ (d : Due). d.claim) later
    → holder_of (pair_of d ++ pairs_of ds) id ≡ option_map (λ (d : Due). d.claim) (cond (not admin && b) (Some d) later)
pair_by true b d id ds later e f g = ap (λ (a : Bool). holder_of (cond a [] ((d.result.device, d.claim) ∷ []) ++ pairs_of ds) id) e ∙ g
pair_by false true d id ds later e f g =
    ap (λ (a : Bool). holder_of (cond a [] ((d.result.device, d.claim) ∷ []) ++ pairs_of ds) id) e ∙ ap (λ (b : Bool). cond b (Some d.claim) (holder_of (pairs_of ds) id)) f
pair_by false false d id ds later e f g =
    ap (λ (a : Bool). holder_of (cond a [] ((d.result.device, d.claim) ∷ []) ++ pairs_of ds) id) e ∙ ap (λ (b : Bool). cond b (Some d.claim) (holder_of (pairs_of ds) id)) f ∙ g

taken_at : (ds : List Due) (id : DeviceId) → holder_of (pairs_of ds) id ≡ taker_of ds id
taken_at [] id = refl
taken_at (d ∷ ds) id = pair_by d.result.admin (device_eq d.result.device id) d id ds (find (takes id) ds) refl refl (taken_at ds id)

pub holder_joined : (pairs : List (DeviceId × Key)) (before : List Due) (id : DeviceId) → holder_of (pairs ++ pairs_of before) id ≡ or_else (holder_of pairs id) (taker_of before id)
holder_joined pairs before id = joined_at pairs (pairs_of before) id ∙ ap (λ (o : Option Key). or_else (holder_of pairs id) o) (taken_at before id)

holder_behind : (pairs : List (DeviceId × Key)) (before : List Due) (now : Holders) (id : DeviceId) → AreHeld now (pairs ++ pairs_of before) → holder_in now id ≡ or_else (holder_of pairs id) (taker_of before id)
holder_behind pairs before now id h = h.holder id ∙ holder_joined pairs before id

-- what is kept of holders decides on one more
pub decides : (pairs : List (DeviceId × Key)) (before : List Due) (now : Holders) (d : Due) → AreHeld now (pairs ++ pairs_of before) → held_in now d ≡ held_behind pairs before d
decides pairs before now d h = ap (λ (o : Option Key). cond d.result.admin None (held_by d o)) (holder_behind pairs before now d.result.device h)

-- what is kept of holders, and what earlier results have, decide on one more
pub decides_among : (pairs : List (DeviceId × Key)) (before : List Due) (holders own : Holders) (d : Due) → AreHeld holders pairs → AreHeld own (pairs_of before) → held_among holders own d ≡ held_behind pairs before d
decides_among pairs before holders own d h g =
    ap (λ (o : Option Key). cond d.result.admin None (held_by d (or_else o (holder_in own d.result.device)))) (h.holder d.result.device)
    ∙ ap (λ (o : Option Key). cond d.result.admin None (held_by d (or_else (holder_of pairs d.result.device) o))) (g.holder d.result.device ∙ taken_at before d.result.device)

-- ---- one more

map_end : (w : SearchInput) (ds : List DueFields) (d : DueFields) → map (due_seen w) (ds ++ d ∷ []) ≡ map (due_seen w) ds ++ due_seen w d ∷ []
map_end w [] d = refl
map_end w (e ∷ ds) d = ap (λ (l : List Due). due_seen w e ∷ l) (map_end w ds d)

pub pairs_end : (ds : List Due) (d : Due) → pairs_of (ds ++ d ∷ []) ≡ pairs_of ds ++ pairs_of (d ∷ [])
pairs_end [] d = refl
pairs_end (e ∷ ds) d = ap (λ (l : List (DeviceId × Key)). pair_of e ++ l) (pairs_end ds d) ∙ sym (append_assoc (pair_of e) (pairs_of ds) (pairs_of (d ∷ [])))

seen_next : (w : SearchInput) (ds : List DueFields) (i : ℕ) (d : DueFields) → i < length ds → d ≡ get_or ds i d → map (due_seen w) (take (i + 1) ds) ≡ map (due_seen w) (take i ds) ++ due_seen w d ∷ []
seen_next w ds i d h e = ap (map (due_seen w)) (take_next ds i d h e) ∙ map_end w (take i ds) d

-- the rest, with the next of them at the prefix
parts : (w : SearchInput) (pairs : List (DeviceId × Key)) (ds : List DueFields) (i : ℕ) (d : DueFields) → i < length ds → d ≡ get_or ds i d
    → held_from pairs (map (due_seen w) (take i ds)) (map (due_seen w) (drop i ds))
    ≡ or_else (held_behind pairs (map (due_seen w) (take i ds)) (due_seen w d)) (held_from pairs (map (due_seen w) (take (i + 1) ds)) (map (due_seen w) (drop (i + 1) ds)))
parts w pairs ds i d h e =
    ap (λ (l : List DueFields). held_from pairs (map (due_seen w) (take i ds)) (map (due_seen w) l)) (drop_next ds i d h e)
    ∙ ap (λ (l : List Due). or_else (held_behind pairs (map (due_seen w) (take i ds)) (due_seen w d)) (held_from pairs l (map (due_seen w) (drop (i + 1) ds)))) (sym (seen_next w ds i d h e))

pub held_next : (holders own new : Holders) (ds : List DueFields) (i : ℕ) (d : DueFields) → i < length ds → d ≡ get_or ds i d
    → ((w : SearchInput) → None ≡ held_among holders own (due_seen w d))
    → ((w : SearchInput) (pairs : List (DeviceId × Key)) → AreHeld own pairs → AreHeld new (pairs ++ pairs_of (due_seen w d ∷ [])))
    → HeldSoFar holders own ds (take i ds) (drop i ds) → HeldSoFar holders new ds (take (i + 1) ds) (drop (i + 1) ds)
held_next holders own new ds i d h e f g s = record {
  found = λ w pairs a.
      sym (parts w pairs ds i d h e
      ∙ ap (λ (o : Option Failure). or_else o (held_from pairs (map (due_seen w) (take (i + 1) ds)) (map (due_seen w) (drop (i + 1) ds))))
      (sym (f w ∙ decides_among pairs (map (due_seen w) (take i ds)) holders own (due_seen w d) a (s.kept w))))
      ∙ s.found w pairs a;
  kept = λ w.
      rw (seen_next w ds i d h e, pairs_end (map (due_seen w) (take i ds)) (due_seen w d))
      (g w (pairs_of (map (due_seen w) (take i ds))) (s.kept w));
}

pub held_here : (holders own : Holders) (ds : List DueFields) (i : ℕ) (d : DueFields) (f : Failure) (w : SearchInput) (pairs : List (DeviceId × Key)) → i < length ds → d ≡ get_or ds i d
    → Some f ≡ held_among holders own (due_seen w d) → HeldSoFar holders own ds (take i ds) (drop i ds) → AreHeld holders pairs → Some f ≡ held pairs (map (due_seen w) ds)
held_here holders own ds i d f w pairs h e k s a =
    sym (parts w pairs ds i d h e
    ∙ ap (λ (o : Option Failure). or_else o (held_from pairs (map (due_seen w) (take (i + 1) ds)) (map (due_seen w) (drop (i + 1) ds))))
    (sym (k ∙ decides_among pairs (map (due_seen w) (take i ds)) holders own (due_seen w d) a (s.kept w))))
    ∙ s.found w pairs a

-- ---- none

-- none is the first of two that are none
pub first_none : (o p : Option Failure) → or_else o p ≡ None → o ≡ None
first_none None p e = refl
first_none (Some f) p e = absurd (cc)

pub later_none : (o p : Option Failure) → or_else o p ≡ None → p ≡ None
later_none None p e = e
later_none (Some f) p e = absurd (cc)
