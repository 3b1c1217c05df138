-- How a server ends, of how its workers ended.
use Rattle.std.proofs.Common.{ℕ, ◌≡◌, ◌∙◌, ◌+◌, ◌≤◌, ◌<◌, ◌++◌, ◌⊎◌, inl, inr, List, [], ◌∷◌, length, map, refl, sym, ap, subst, arith, ⊎_elim}
use Rattle.std.proofs.lemmas.Bool.{cases_lt}
use Rattle.turn_lock.specs.Places.{times}
use Rattle.door_ports.specs.Shares.{IsLeft, Share, advanced, share_of}
use Rattle.api_server.specs.declared.end.ConnEnd.{ConnEnd}
use Rattle.api_server.specs.declared.end.ConnEnd.TheVariants as conn_end
use Rattle.api_server.specs.declared.share_end.ShareEnd.{ShareEnd}
use Rattle.api_server.specs.declared.share_end.ShareEnd.TheVariants as share_end
use Rattle.api_server.specs.Talks.{AllGoOn, AreNext, AtDoor, Talk, after_talk, after_talks}
use Rattle.api_server.specs.Together.{AreOpened, AreShifts, flat_talks, worse, worst}
use Rattle.api_server.specs.Whole.{AreAll, numbers_of}
use Rattle.api_server.specs.Workers.{EndsShift, HasEnd, IsShift}
use Rattle.api_server.specs.declared.serve_end.ServeEnd.{ServeEnd}
use Rattle.api_server.specs.declared.serve_end.ServeEnd.TheVariants as end
use Rattle.api_server.proofs.Numbers.{AllOver, AllSteps, AreSteps, after, apart_all, each_once, flat, so_many}

-- ---- the numbers of the connections

steps_of : (b : ℕ) (s : Share) (ks : List Talk) → s.next ≡ b + 1 → AreNext s ks → AreSteps b s.step s.last (numbers_of ks)
steps_of b s [] e are = tt
steps_of b s (k ∷ ks) e (left, number, more) = (omega (arith, left, e), number ∙ e, steps_of (b + s.step) (advanced s) ks (omega (arith, e)) more)

lane_steps : (i n last : ℕ) (s : Share) (ks : List Talk) → s ≡ share_of i n last → AreNext s ks → AreSteps i n last (numbers_of ks)
lane_steps i n last s ks is next = steps_of i (share_of i n last) ks refl (subst (λ (x : Share). AreNext x ks) is next)

pub all_steps_of : (i n last : ℕ) (ds now : List AtDoor) (kss : List (List Talk)) (xs : List ShareEnd) → AreOpened i n last ds → AreShifts ds now kss xs → AllSteps i n last (map numbers_of kss)
all_steps_of i n last [] [] [] [] new are = tt
all_steps_of i n last [] [] [] (x ∷ xs) new are = absurd are
all_steps_of i n last [] [] (ks ∷ kss) xs new are = absurd are
all_steps_of i n last [] (e ∷ es) kss xs new are = absurd are
all_steps_of i n last (d ∷ ds) [] kss xs new are = absurd are
all_steps_of i n last (d ∷ ds) (e ∷ es) [] xs new are = absurd are
all_steps_of i n last (d ∷ ds) (e ∷ es) (ks ∷ kss) [] new are = absurd are
all_steps_of i n last (d ∷ ds) (e ∷ es) (ks ∷ kss) (x ∷ xs) new are = (lane_steps i n last d.share ks new.0.share are.0.next, all_steps_of (i + 1) n last ds es kss xs new.1 are.1)

numbers_append : (ks js : List Talk) → numbers_of (ks ++ js) ≡ numbers_of ks ++ numbers_of js
numbers_append [] js = refl
numbers_append (k ∷ ks) js = ap (λ (ns : List ℕ). k.number ∷ ns) (numbers_append ks js)

pub numbers_flat : (kss : List (List Talk)) → numbers_of (flat_talks kss) ≡ flat (map numbers_of kss)
numbers_flat [] = refl
numbers_flat (ks ∷ kss) = numbers_append ks (flat_talks kss) ∙ ap (λ (ns : List ℕ). numbers_of ks ++ ns) (numbers_flat kss)

numbers_length : (ks : List Talk) → length (numbers_of ks) ≡ length ks
numbers_length [] = refl
numbers_length (k ∷ ks) = let r = numbers_length ks in omega arith

-- the share of a door after these connections
share_after : (b : ℕ) (d : AtDoor) (ks : List Talk) → d.share.next ≡ b + 1 → (after_talks d ks).share.next ≡ after b d.share.step (numbers_of ks) + 1
share_after b d [] e = e
share_after b d (k ∷ ks) e = share_after (b + d.share.step) (after_talk d k) ks (omega (arith, e))

last_after : (d : AtDoor) (ks : List Talk) → (after_talks d ks).share.last ≡ d.share.last
last_after d [] = refl
last_after d (k ∷ ks) = last_after (after_talk d k) ks

-- each worker went on to the end
abbrev pub AllServed : List ShareEnd → Type 0
AllServed [] = Unit {0}
AllServed (x ∷ xs) = (x ≡ share_end.Served) × AllServed xs

worse_served : (e : ServeEnd) (x : ShareEnd) → worse e x ≡ end.Served → (e ≡ end.Served) × (x ≡ share_end.Served)
worse_served e share_end.Served is = (is, refl)
worse_served e share_end.Memory is = absurd (cc)
worse_served end.Memory share_end.Door is = absurd (cc)
worse_served end.Served share_end.Door is = absurd (cc)
worse_served end.Door share_end.Door is = absurd (cc)
worse_served (end.Limit m) share_end.Door is = absurd (cc)
worse_served end.Memory (share_end.Full n) is = absurd (cc)
worse_served end.Door (share_end.Full n) is = absurd (cc)
worse_served end.Served (share_end.Full n) is = absurd (cc)
worse_served (end.Limit m) (share_end.Full n) is = absurd (cc)

pub worst_served : (e : ServeEnd) (xs : List ShareEnd) → worst e xs ≡ end.Served → (e ≡ end.Served) × AllServed xs
worst_served e [] is = (is, tt)
worst_served e (x ∷ xs) is =
    let r = worst_served (worse e x) xs is in
    let w = worse_served e x r.0 in (w.0, (w.1, r.1))

-- ---- all were served

ends_served : (ks : List Talk) (before : ℕ) (now : AtDoor) (x : ShareEnd) → x ≡ share_end.Served → EndsShift ks before now x → EndsShift ks before now share_end.Served
ends_served ks before now x is ends = subst (EndsShift ks before now) is ends

on_append : (ks js : List Talk) → AllGoOn ks → AllGoOn js → AllGoOn (ks ++ js)
on_append [] js a b = b
on_append (k ∷ ks) js a b = (a.0, on_append ks js a.1 b)

pub all_go_on : (ds now : List AtDoor) (kss : List (List Talk)) (xs : List ShareEnd) → AreShifts ds now kss xs → AllServed xs → AllGoOn (flat_talks kss)
all_go_on [] [] [] [] are served = tt
all_go_on [] [] [] (x ∷ xs) are served = absurd are
all_go_on [] [] (ks ∷ kss) xs are served = absurd are
all_go_on [] (e ∷ es) kss xs are served = absurd are
all_go_on (d ∷ ds) [] kss xs are served = absurd are
all_go_on (d ∷ ds) (e ∷ es) [] xs are served = absurd are
all_go_on (d ∷ ds) (e ∷ es) (ks ∷ kss) [] are served = absurd are
all_go_on (d ∷ ds) (e ∷ es) (ks ∷ kss) (x ∷ xs) are served = on_append ks (flat_talks kss) (ends_served ks d.faults e x served.0 are.0.ends).0 (all_go_on ds es kss xs are.1 served.1)

lane_over : (i n last : ℕ) (d now : AtDoor) (ks : List Talk) → d.share ≡ share_of i n last → now ≡ record (after_talks d ks) { faults = now.faults } → (IsLeft now.share → ⊥) → last ≤ after i n (numbers_of ks)
lane_over i n last d now ks is door over =
    let step : d.share.step ≡ n = ap (λ (s : Share). s.step) is in
    let next = share_after i d ks (ap (λ (s : Share). s.next) is) in
    let most : (after_talks d ks).share.last ≡ last = last_after d ks ∙ ap (λ (s : Share). s.last) is in
    let share : now.share ≡ (after_talks d ks).share = ap (λ (x : AtDoor). x.share) door in
    let there : now.share.next ≡ after i n (numbers_of ks) + 1 = ap (λ (s : Share). s.next) share ∙ next ∙ ap (λ (m : ℕ). after i m (numbers_of ks) + 1) step in
    let end_ : now.share.last ≡ last = ap (λ (s : Share). s.last) share ∙ most in
    ⊎_elim {C = last ≤ after i n (numbers_of ks)} (λ less. absurd (over (omega (arith, less, there, end_)))) (λ done. done) (cases_lt (after i n (numbers_of ks)) last)

pub all_over : (i n last : ℕ) (ds now : List AtDoor) (kss : List (List Talk)) (xs : List ShareEnd) → AreOpened i n last ds → AreShifts ds now kss xs → AllServed xs → AllOver i n last (map numbers_of kss)
all_over i n last [] [] [] [] new are served = tt
all_over i n last [] [] [] (x ∷ xs) new are served = absurd are
all_over i n last [] [] (ks ∷ kss) xs new are served = absurd are
all_over i n last [] (e ∷ es) kss xs new are served = absurd are
all_over i n last (d ∷ ds) [] kss xs new are served = absurd are
all_over i n last (d ∷ ds) (e ∷ es) [] xs new are served = absurd are
all_over i n last (d ∷ ds) (e ∷ es) (ks ∷ kss) [] new are served = absurd are
all_over i n last (d ∷ ds) (e ∷ es) (ks ∷ kss) (x ∷ xs) new are served = (
  lane_over i n last d e ks new.0.share are.0.door (ends_served ks d.faults e x served.0 are.0.ends).1,
  all_over (i + 1) n last ds es kss xs new.1 are.1 served.1,
)

shifts_length : (ds now : List AtDoor) (kss : List (List Talk)) (xs : List ShareEnd) → AreShifts ds now kss xs → length (map numbers_of kss) ≡ length ds
shifts_length [] [] [] [] are = refl
shifts_length [] [] [] (x ∷ xs) are = absurd are
shifts_length [] [] (ks ∷ kss) xs are = absurd are
shifts_length [] (e ∷ es) kss xs are = absurd are
shifts_length (d ∷ ds) [] kss xs are = absurd are
shifts_length (d ∷ ds) (e ∷ es) [] xs are = absurd are
shifts_length (d ∷ ds) (e ∷ es) (ks ∷ kss) [] are = absurd are
shifts_length (d ∷ ds) (e ∷ es) (ks ∷ kss) (x ∷ xs) are = let r = shifts_length ds es kss xs are.1 in omega arith

-- no connection was served twice
pub apart : (n last : ℕ) (ds now : List AtDoor) (kss : List (List Talk)) (xs : List ShareEnd) (m : ℕ) → AreOpened 0 n last ds → AreShifts ds now kss xs → length ds ≡ n → times m (numbers_of (flat_talks kss)) ≤ 1
apart n last ds now kss xs m new are count =
    subst (λ (ns : List ℕ). times m ns ≤ 1) (sym (numbers_flat kss)) (apart_all n last (map numbers_of kss) m (all_steps_of 0 n last ds now kss xs new are) (let l = shifts_length ds now kss xs are in omega arith))

-- each was served once
pub are_all : (n last : ℕ) (ds now : List AtDoor) (kss : List (List Talk)) (xs : List ShareEnd) → AreOpened 0 n last ds → AreShifts ds now kss xs → AllServed xs → length ds ≡ n → 0 < n → AreAll last (flat_talks kss)
are_all n last ds now kss xs new are served count pos =
    let steps = all_steps_of 0 n last ds now kss xs new are in
    let over = all_over 0 n last ds now kss xs new are served in
    let len = shifts_length ds now kss xs are ∙ count in record {
      count = sym (numbers_length (flat_talks kss)) ∙ ap length (numbers_flat kss) ∙ so_many n last (map numbers_of kss) steps over len pos;
      each = λ m some most. ap (times m) (numbers_flat kss) ∙ each_once n last (map numbers_of kss) m steps over len pos some most;
    }
