-- Where a text may be cut.
use Rattle.std.proofs.Common.{◌≡◌, ℕ, take, ◌+◌, ◌-◌, ◌<◌, ◌≤◌, Bool, true, List, [], ◌∷◌, drop, length, get_or, arith, refl, ap, ◌∙◌, subst}
use Rattle.std.specs.List.{prefix_len}
use Rattle.std.proofs.lemmas.List.{length-drop, get_or-drop, take_all}
use Rattle.std.proofs.lemmas.List.Sums.{prefix_len-le-length, prefix_len_passes}
use Rattle.cel_lex.specs.Bytes.{begins}

-- a prefix of n bytes, of which the last is ASCII
pub record IsCut (bs : List ℕ) (n : ℕ) : Type 0 where
  pub some : 0 < n
  pub within : n ≤ length bs
  pub last : get_or bs (n - 1) 0 < 128

-- a run of bytes that are ASCII if they pass
pub IsCut-run : (p : ℕ → Bool) (bs : List ℕ) → ((x : ℕ) → p x ≡ true → x < 128) → begins p bs ≡ true → IsCut bs (prefix_len p bs)
IsCut-run p [] ascii h = cc
IsCut-run p (c ∷ cs) ascii h =
    let some : prefix_len p (c ∷ cs) ≡ 1 + prefix_len p cs = rw h refl in
    record {
      some = omega arith;
      within = prefix_len-le-length p (c ∷ cs);
      last = ascii _ (prefix_len_passes p (c ∷ cs) (prefix_len p (c ∷ cs) - 1) 0 (omega arith));
    }

-- one byte that passes
pub IsCut-one : (p : ℕ → Bool) (bs : List ℕ) → ((x : ℕ) → p x ≡ true → x < 128) → begins p bs ≡ true → IsCut bs 1
IsCut-one p [] ascii h = cc
IsCut-one p (c ∷ cs) ascii h = record { some = omega arith; within = omega arith; last = ascii c h }

-- n bytes and a cut of what follows them
pub IsCut-behind : (bs : List ℕ) (n m : ℕ) → n ≤ length bs → IsCut (drop n bs) m → IsCut bs (n + m)
IsCut-behind bs n m h cut =
    let at : n + (m - 1) ≡ n + m - 1 = omega (arith, cut.some) in
    record {
      some = omega (arith, cut.some);
      within = omega (arith, cut.within, length-drop n bs);
      last = subst (λ (b : ℕ). b < 128) (get_or-drop n bs (m - 1) 0 ∙ ap (λ i. get_or bs i 0) at) cut.last;
    }

-- a slice from an offset on is what follows it
pub slice_rest : (src : List ℕ) (at : ℕ) → take (length src - at) (drop at src) ≡ drop at src
slice_rest src at = take_all _ _ (simp length-drop (omega arith))

pub begins_some : (p : ℕ → Bool) (bs : List ℕ) → begins p bs ≡ true → 1 ≤ length bs
begins_some p [] h = cc
begins_some p (c ∷ cs) h = omega arith
