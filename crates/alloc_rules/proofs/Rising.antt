-- Positions that increase, one after another.
use Rattle.std.proofs.Common.{ℕ, ◌+◌, ◌-◌, ◌<◌, ◌≤◌, ◌≡◌, ◌∙◌, List, [], ◌∷◌, ◌++◌, Bool, true, false, ◌&&◌, leb, drop, get_or, length, take, refl, sym, ap, arith}
use Rattle.std.proofs.Math.Dec.{leb-zero}
use Rattle.std.proofs.lemmas.Bool.{le-leb, lt-leb}
use Rattle.request_rules.specs.Rules.{least_after}
use Rattle.alloc_rules.specs.Rows.{DueFields, positions_of}
use Rattle.plan_rules.specs.Shaped.{rises_from}
use Rattle.alloc_rules.proofs.Lists.{drop_next, take_next}

-- the rest rises after those done as the whole does; one at least is done
pub record RisesSoFar (ds : List DueFields) (i : ℕ) : Type 0 where
  pub some : 1 ≤ i
  pub whole : rises_from (least_after 0 (positions_of (take i ds))) (positions_of (drop i ds)) ≡ rises_from 0 (positions_of ds)

pub rise_first : (ds : List DueFields) → RisesSoFar ds 1
rise_first [] = record { some = omega arith; whole = refl }
rise_first (d ∷ ds) = record { some = omega arith; whole = sym (ap (λ (t : Bool). t && rises_from (d.position + 1) (positions_of ds)) (leb-zero d.position)) }

positions_end : (ds : List DueFields) (d : DueFields) → positions_of (ds ++ d ∷ []) ≡ positions_of ds ++ d.position ∷ []
positions_end [] d = refl
positions_end (e ∷ ds) d = ap (λ (l : List ℕ). e.position ∷ l) (positions_end ds d)

least_end : (least : ℕ) (xs : List ℕ) (x : ℕ) → least_after least (xs ++ x ∷ []) ≡ x + 1
least_end least [] x = refl
least_end least (y ∷ xs) x = least_end (y + 1) xs x

least_next : (ds : List DueFields) (i : ℕ) (d : DueFields) → i < length ds → d ≡ get_or ds i d → least_after 0 (positions_of (take (i + 1) ds)) ≡ d.position + 1
least_next ds i d h e = ap (λ (l : List DueFields). least_after 0 (positions_of l)) (take_next ds i d h e) ∙ ap (least_after 0) (positions_end (take i ds) d) ∙ least_end 0 (positions_of (take i ds)) d.position

least_last : (ds : List DueFields) (i : ℕ) (b : DueFields) → 1 ≤ i → i < length ds → b ≡ get_or ds (i - 1) b → least_after 0 (positions_of (take i ds)) ≡ b.position + 1
least_last ds i b s h e =
    let n : i ≡ (i - 1) + 1 = omega arith in
    ap (λ (k : ℕ). least_after 0 (positions_of (take k ds))) n ∙ least_next ds (i - 1) b (omega arith) e

parts : (ds : List DueFields) (i : ℕ) (b d : DueFields) (t : Bool) → 1 ≤ i → i < length ds → b ≡ get_or ds (i - 1) b → d ≡ get_or ds i d → leb (b.position + 1) d.position ≡ t
    → rises_from (least_after 0 (positions_of (take i ds))) (positions_of (drop i ds)) ≡ (t && rises_from (least_after 0 (positions_of (take (i + 1) ds))) (positions_of (drop (i + 1) ds)))
parts ds i b d t s h e f g =
    ap (λ (l : List DueFields). rises_from (least_after 0 (positions_of (take i ds))) (positions_of l)) (drop_next ds i d h f)
    ∙ ap (λ (k : ℕ). leb k d.position && rises_from (d.position + 1) (positions_of (drop (i + 1) ds))) (least_last ds i b s h e)
    ∙ ap (λ (u : Bool). u && rises_from (d.position + 1) (positions_of (drop (i + 1) ds))) g
    ∙ ap (λ (k : ℕ). t && rises_from k (positions_of (drop (i + 1) ds))) (sym (least_next ds i d h f))

pub rise_stops : (ds : List DueFields) (i : ℕ) (b d : DueFields) → i < length ds → b ≡ get_or ds (i - 1) b → d ≡ get_or ds i d → d.position ≤ b.position → RisesSoFar ds i → false ≡ rises_from 0 (positions_of ds)
rise_stops ds i b d h e f k s = sym (parts ds i b d false s.some h e f (lt-leb (b.position + 1) d.position (omega arith))) ∙ s.whole

pub rise_next : (ds : List DueFields) (i : ℕ) (b d : DueFields) → i < length ds → b ≡ get_or ds (i - 1) b → d ≡ get_or ds i d → b.position < d.position → RisesSoFar ds i → RisesSoFar ds (i + 1)
rise_next ds i b d h e f k s = record {
  some = omega arith;
  whole = sym (parts ds i b d true s.some h e f (le-leb (b.position + 1) d.position (omega arith))) ∙ s.whole;
}
