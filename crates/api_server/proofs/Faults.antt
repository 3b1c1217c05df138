-- Whether a door failed, of how the workers ended.
use Rattle.std.proofs.Common.{ℕ, ◌≡◌, ◌∙◌, ◌+◌, ◌-◌, ◌^◌, ◌≤◌, ◌<◌, ◌⊎◌, inl, inr, Bool, true, false, not, ◌||◌, nat_eq, eqb, eqb-true, List, [], ◌∷◌, min, refl, sym, ap, subst, arith}
use Rattle.std.specs.List.{list_any}
use Rattle.dra_ports.specs.Causes.{Rose, next_count}
use Rattle.door_ports.specs.Shares.{any_failed}
use Rattle.api_server.specs.declared.share_end.ShareEnd.{ShareEnd}
use Rattle.api_server.specs.declared.share_end.ShareEnd.TheVariants as share_end
use Rattle.api_server.specs.Talks.{AtDoor, Talk}
use Rattle.api_server.specs.Together.{AreOpened, AreShifts}
use Rattle.api_server.specs.Workers.{EndsShift}
use Rattle.api_server.proofs.Failing.{AllQuiet, Has, Quiet}

abbrev pub count : AtDoor → ℕ
count d = d.faults

quiet_count : (ks : List Talk) (before : ℕ) (now : AtDoor) (x : ShareEnd) → Quiet x → EndsShift ks before now x → now.faults ≡ before
quiet_count ks before now share_end.Served q e = e.2
quiet_count ks before now (share_end.Full n) q e = e.2
quiet_count ks before now share_end.Door q e = absurd q
quiet_count ks before now share_end.Memory q e = absurd q

or_none : (m : ℕ) (b : Bool) → m ≡ 0 → b ≡ false → (not (nat_eq m 0) || b) ≡ false
or_none m b is none = ap (λ (k : ℕ). not (nat_eq k 0) || b) is ∙ none

or_first : (m : ℕ) (b : Bool) → 0 < m → (not (nat_eq m 0) || b) ≡ true
or_first m b lt = pick (eqb m 0) refl
  where
    pick : (x : Bool) → eqb m 0 ≡ x → (not (nat_eq m 0) || b) ≡ true
    pick true t = absurd (let e = eqb-true m 0 t in omega arith)
    pick false t = ap (λ (y : Bool). not y || b) t

or_true : (x : Bool) → (x || true) ≡ true
or_true true = refl
or_true false = refl

or_later : (m : ℕ) (b : Bool) → b ≡ true → (not (nat_eq m 0) || b) ≡ true
or_later m b is = ap (λ (y : Bool). not (nat_eq m 0) || y) is ∙ or_true (not (nat_eq m 0))

pub none_failed : (i n last : ℕ) (ds now : List AtDoor) (kss : List (List Talk)) (xs : List ShareEnd) → AreOpened i n last ds → AreShifts ds now kss xs → AllQuiet xs → any_failed count now ≡ false
none_failed i n last [] [] [] [] new are quiet = refl
none_failed i n last [] [] [] (x ∷ xs) new are quiet = absurd are
none_failed i n last [] [] (ks ∷ kss) xs new are quiet = absurd are
none_failed i n last [] (e ∷ es) kss xs new are quiet = absurd are
none_failed i n last (d ∷ ds) [] kss xs new are quiet = absurd are
none_failed i n last (d ∷ ds) (e ∷ es) [] xs new are quiet = absurd are
none_failed i n last (d ∷ ds) (e ∷ es) (ks ∷ kss) [] new are quiet = absurd are
none_failed i n last (d ∷ ds) (e ∷ es) (ks ∷ kss) (x ∷ xs) new are quiet =
    or_none e.faults (any_failed count es) (quiet_count ks d.faults e x quiet.0 are.0.ends ∙ new.0.faults) (none_failed (i + 1) n last ds es kss xs new.1 are.1 quiet.1)

rose_some : (before now : ℕ) → before ≡ 0 → Rose before now → 0 < now
rose_some before now is rose = let r : next_count 0 ≤ now = subst (λ (m : ℕ). next_count m ≤ now) is rose in omega arith

pub some_failed : (i n last : ℕ) (ds now : List AtDoor) (kss : List (List Talk)) (xs : List ShareEnd) → AreOpened i n last ds → AreShifts ds now kss xs → Has share_end.Door xs → any_failed count now ≡ true
some_failed i n last ds now kss [] new are has = absurd has
some_failed i n last [] [] [] (x ∷ xs) new are has = absurd are
some_failed i n last [] [] (ks ∷ kss) (x ∷ xs) new are has = absurd are
some_failed i n last [] (e ∷ es) kss (x ∷ xs) new are has = absurd are
some_failed i n last (d ∷ ds) [] kss (x ∷ xs) new are has = absurd are
some_failed i n last (d ∷ ds) (e ∷ es) [] (x ∷ xs) new are has = absurd are
some_failed i n last (d ∷ ds) (e ∷ es) (ks ∷ kss) (x ∷ xs) new are (inl is) = or_first e.faults (any_failed count es) (rose_some d.faults e.faults new.0.faults (subst (EndsShift ks d.faults e) is are.0.ends))
some_failed i n last (d ∷ ds) (e ∷ es) (ks ∷ kss) (x ∷ xs) new are (inr has) = or_later e.faults (any_failed count es) (some_failed (i + 1) n last ds es kss xs new.1 are.1 has)
