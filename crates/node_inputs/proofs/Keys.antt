-- Keys that compare as equal are equal.
use Rattle.std.proofs.Common.{ℕ, ◌≡◌, ◌∙◌, List, Option, None, Some, Bor, refl, sym, ap}
use Rattle.std.specs.Option.{IfSome}
use Rattle.std.specs.Cmp.Lexicographic.{same_text, texts_ties}
use Rattle.std.specs.Ordering.{is_eq, ordering_then}
use Rattle.std.specs.declared.cmp.Ordering.{Ordering}
use Rattle.std.specs.declared.cmp.Ordering.TheVariants.{Less, Equal, Greater}
use Rattle.object_fields.specs.declared.key.Key.{Key}
use Rattle.pool_view.specs.Names.{key_cmp, text_cmp}

then_equal : (a b : Ordering) → ordering_then a b ≡ Equal → (a ≡ Equal) × (b ≡ Equal)
then_equal Less b e = absurd (cc)
then_equal Equal b e = (refl, e)
then_equal Greater b e = absurd (cc)

text_same : (a b : List ℕ) → text_cmp a b ≡ Equal → a ≡ b
text_same a b e = same_text a b (sym (texts_ties a b ∙ ap is_eq e))

same_parts : (n m a b : List ℕ) → n ≡ m → a ≡ b → ◌≡◌ {A = Key} (record { namespace = n; name = a }) (record { namespace = m; name = b })
same_parts n m a b e f = cc

pub key_same : (a b : Key) → key_cmp a b ≡ Equal → b ≡ a
key_same a b e =
    let both = then_equal (text_cmp a.namespace b.namespace) (text_cmp a.name b.name) e in
    same_parts b.namespace a.namespace b.name a.name (sym (text_same a.namespace b.namespace both.0)) (sym (text_same a.name b.name both.1))

pub key_found : {V : Type 0} (o : Option (Bor Key × V)) (k : Key) → IfSome o (λ p. key_cmp k p.0.now ≡ Equal) → IfSome o (λ p. p.0.now ≡ k)
key_found None k h = tt
key_found (Some p) k h = key_same k p.0.now h
