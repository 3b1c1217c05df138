-- The part of each connection in what workers made.
use Rattle.std.proofs.Common.{ℕ, ◌≡◌, ◌≤◌, ◌∙◌, ◌⊎◌, ◌+◌, ◌++◌, inl, inr, List, [], ◌∷◌, length, refl, sym, ap, subst, append-nil, append_assoc, arith}
use mathlib.Core.List.{IsPrefix}
use Rattle.cluster.specs.declared.entry.Entry.{Entry}
use Rattle.turn_lock.specs.Known.{IsFree, Known}
use Rattle.api_server.specs.Ledgers.{with_added}
use Rattle.api_server.specs.Talks.{AreTalks, Talk, Terms}
use Rattle.api_server.specs.Whole.{IsOfTalk}
use Rattle.api_server.specs.Parts.{AllDid, IsOfJob, Part, added_of, talks_of}
use Rattle.api_server.proofs.Chaining.{Made, Makes, added_join, added_none, free_then, made_one, prefix_trans, weaker}

-- the parts of connections that were served one after another, in what became this history
pub record Parted (t : Terms) (number : ℕ) (h : List Entry) (ks : List Talk) (old new : Known Entry) : Type 0 where
  pub parts : List Part
  pub talks_are : talks_of parts ≡ ks
  pub did : AllDid t number h parts
  pub is : new ≡ with_added old new.front (added_of parts)
  pub extends : IsPrefix old.front new.front

of_one : (k : Talk) (e : Entry) → IsOfTalk (k ∷ []) e → IsOfJob k e
of_one k e (inl is) = is
of_one k e (inr is) = absurd is

pub part_all : Makes → (t : Terms) (number : ℕ) (h : List Entry) (ks : List Talk) (old new : Known Entry) → IsFree old → old.number ≡ number → AreTalks t old new ks → IsPrefix new.front h → Parted t number h ks old new
part_all makes t number h [] old new free numbered are p = record {
  parts = [];
  talks_are = refl;
  did = tt;
  is = subst (λ (k : Known Entry). k ≡ with_added old k.front []) (sym are) (added_none old free);
  extends = subst (λ (k : Known Entry). IsPrefix old.front k.front) (sym are) ([], append-nil old.front);
}
part_all makes t number h (k ∷ ks) old new free numbered (mid, is, more) p =
    let one : Made (k ∷ []) old mid = made_one makes t k [] old mid free is in
    let rest : Parted t number h ks mid new = part_all makes t number h ks mid new (free_then old mid one.added one.is) (ap (λ (x : Known Entry). x.number) one.is ∙ numbered) more p in
    let q : IsPrefix mid.front h = prefix_trans mid.front new.front h rest.extends p in record {
      parts = record { talk = k; old = old; new = mid; added = one.added } ∷ rest.parts;
      talks_are = ap (λ (xs : List Talk). k ∷ xs) rest.talks_are;
      did = (
        record {
          free = free;
          is = is;
          number_is = ap (λ (x : Known Entry). x.number) one.is ∙ numbered;
          added_is = one.is;
          begins = q;
          made = weaker (IsOfTalk (k ∷ [])) (IsOfJob k) (length old.front) 0 mid.front h one.added (of_one k) (omega arith) q one.made;
        },
        rest.did,
      );
      is = added_join old mid new one.added (added_of rest.parts) one.is rest.is;
      extends = prefix_trans old.front mid.front new.front one.extends rest.extends;
    }
