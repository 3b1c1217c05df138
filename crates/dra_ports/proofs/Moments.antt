-- What holds of whatever a crash leaves, from one call of a disk to the next.
use Rattle.std.proofs.Common.{◌≡◌, inl, inr, ℕ, IsTrue, List, [], ◌∷◌, ◌++◌, Option, Some, None, refl, sym, ◌∙◌, ap, subst, append_assoc, append-nil}
use Rattle.std.specs.List.{AllByRecursion}
use Rattle.std.specs.Option.{option_map}
use Rattle.dra_ports.specs.DiskContent.{Content, Partly, Sure, moved}
use Rattle.dra_ports.specs.DiskImages.{AtEachMoment, Leaves, Throughout, Where}

both : {X : Type 0} (P : X → Type 0) (xs ys : List X) → AllByRecursion P xs → AllByRecursion P ys → AllByRecursion P (xs ++ ys)
both P [] ys p q = q
both P (x ∷ xs) ys p q = (p.0, both P xs ys p.1 q)

each_under : (P Q : List ℕ → Type 0) → ((image : List ℕ) → P image → Q image) → (moments : List Sure) → AllByRecursion (Leaves P) moments → AllByRecursion (Leaves Q) moments
each_under P Q under [] p = tt
each_under P Q under (s ∷ moments) p = (λ image is. under image (p.0 image is), each_under P Q under moments p.1)

-- no call
pub no_call : (P : List ℕ → Type 0) (x : Option Content) → Where (λ c. Leaves P c.sure) x → AtEachMoment P x x
no_call P None h = tt
no_call P (Some c) h = λ honest. record { moments = []; passed = sym (append-nil c.earlier); each = tt; now = h honest; honest = refl }

-- one call more
one_moved : (P : List ℕ → Type 0) (a b : Content) (bytes : List ℕ) (sure : Sure) → Throughout P a b → Leaves P sure → Throughout P a (moved bytes sure b)
one_moved P a b bytes sure so_far leaves = record {
  moments = so_far.moments ++ b.sure ∷ [];
  passed = ap (λ (l : List Sure). l ++ b.sure ∷ []) so_far.passed ∙ append_assoc a.earlier so_far.moments (b.sure ∷ []);
  each = both (Leaves P) so_far.moments (b.sure ∷ []) so_far.each (so_far.now, tt);
  now = leaves;
  honest = so_far.honest;
}

pub moves : (P : List ℕ → Type 0) (bytes : Content → List ℕ) (sure : Content → Sure) (x y z : Option Content) → AtEachMoment P x y
    → z ≡ option_map (λ c. moved (bytes c) (sure c) c) y → Where (λ c. Leaves P (sure c)) y → AtEachMoment P x z
moves P bytes sure None None z so_far is leaves = subst (AtEachMoment P None) (sym is) tt
moves P bytes sure None (Some b) z so_far is leaves = absurd so_far
moves P bytes sure (Some a) None z so_far is leaves = absurd so_far
moves P bytes sure (Some a) (Some b) z so_far is leaves = subst (AtEachMoment P (Some a)) (sym is)
    (λ honest. one_moved P a b (bytes b) (sure b) (so_far honest) (leaves (subst IsTrue (sym (so_far honest).honest) honest)))

-- one call more that failed
pub may_move : (P : List ℕ → Type 0) (change : Sure → Sure) (x y z : Option Content) → AtEachMoment P x y
    → Partly change y z → Where (λ c. Leaves P (change c.sure)) y → AtEachMoment P x z
may_move P change x y z so_far (inl same) leaves = subst (AtEachMoment P x) (sym same) so_far
may_move P change x None z so_far (inr part) leaves = absurd part
may_move P change x (Some b) z so_far (inr part) leaves = moves P (λ _. part.0) (λ c. change c.sure) x (Some b) z so_far part.1 leaves

pub then : (P : List ℕ → Type 0) (x y z : Option Content) → AtEachMoment P x y → AtEachMoment P y z → AtEachMoment P x z
then P None None z p q = q
then P None (Some b) z p q = absurd p
then P (Some a) None z p q = absurd p
then P (Some a) (Some b) None p q = absurd q
then P (Some a) (Some b) (Some c) p q = λ honest.
    let first = p honest in
    let second = q (subst IsTrue (sym first.honest) honest) in
    record {
      moments = first.moments ++ second.moments;
      passed = second.passed ∙ ap (λ (l : List Sure). l ++ second.moments) first.passed ∙ append_assoc a.earlier first.moments second.moments;
      each = both (Leaves P) first.moments second.moments first.each second.each;
      now = second.now;
      honest = second.honest ∙ first.honest;
    }

pub under : (P Q : List ℕ → Type 0) (x y : Option Content) → ((image : List ℕ) → P image → Q image) → AtEachMoment P x y → AtEachMoment Q x y
under P Q None None h p = tt
under P Q None (Some b) h p = absurd p
under P Q (Some a) None h p = absurd p
under P Q (Some a) (Some b) h p = λ honest.
    let all = p honest in
    record { moments = all.moments; passed = all.passed; each = each_under P Q h all.moments all.each; now = λ image is. h image (all.now image is); honest = all.honest }
