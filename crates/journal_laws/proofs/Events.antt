-- The text of an event: its kind, a blank, and the rest, which has the index of a plan or a verdict at a place of its own.
use Rattle.std.proofs.Common.{ℕ, ◌≡◌, ◌∙◌, ◌++◌, ◌||◌, List, [], ◌∷◌, Bool, true, false, Option, None, Some, if◌then◌else◌, map, refl, sym, ap, append_assoc, append-nil}
use Rattle.std.specs.Prelude.{codes, decimal, is_some}
use Rattle.std.specs.List.{list_all}
use Rattle.std.specs.Str.{bytes_eq}
use Rattle.std.proofs.lemmas.Bool.{and_parts}
use Rattle.object_fields.specs.declared.key.Key.{Key}
use Rattle.object_fields.specs.Keys.{key_text}
use Rattle.cluster.specs.declared.entry.Command.{Command}
use Rattle.cluster.specs.declared.entry.Command.TheVariants as command
use Rattle.cluster.specs.declared.entry.Event.{Event}
use Rattle.cluster.specs.declared.entry.Event.TheVariants.{Applied, Deleted, Reserved, Refused, Wrote, Conflict, Unreserved, Bound, VerdictGiven, Contended, Released, Adopted, Denied}
use Rattle.cluster.specs.declared.entry.Refusal.{Refusal}
use Rattle.cluster.specs.declared.entry.Refusal.TheVariants as refusal
use Rattle.cluster.specs.declared.object.Target.TheVariants as target
use Rattle.cluster.specs.declared.plan.Plan.{Plan}
use Rattle.cluster.specs.declared.plan.Reason.{Reason}
use Rattle.cluster.specs.declared.plan.Reason.TheVariants as reason
use Rattle.cluster.specs.VerdictGiven.{has_budget, has_fault}
use Rattle.histories.specs.Determined.{decided_at, kind_word}
use Rattle.journal_text.specs.Journal.{clean, denial_text, event_text, failure_text, grant_text, is_unbound, listed, object_text, passed_text, plan_text, reason_text, refusal_text, target_text, verdict_word}
use Rattle.journal_laws.specs.Told.{is_unbroken, names_before_index}
use Rattle.journal_laws.proofs.Cuts.{lacks}

-- the index stands behind two words of which neither has a blank, if the names haven't
pub record HasIndex (names : List (List ℕ)) (at : ℕ) (rest : List ℕ) : Type 0 where
  pub first : List ℕ
  pub second : List ℕ
  pub behind : List ℕ
  pub is : rest ≡ first ++ 32 ∷ (second ++ 32 ∷ ((codes "at=" ++ decimal at) ++ 32 ∷ behind))
  pub clear : list_all is_unbroken names ≡ true → (lacks 32 first ≡ true) × (lacks 32 second ≡ true)

abbrev pub TellsIndex : List (List ℕ) → Option ℕ → List ℕ → Type 0
TellsIndex names None rest = Unit {0}
TellsIndex names (Some at) rest = HasIndex names at rest

pub record IsSpelled (e : Event) : Type 0 where
  pub rest : List ℕ
  pub is : event_text e ≡ kind_word e ++ 32 ∷ rest
  pub told : TellsIndex (names_before_index e) (decided_at e) rest

-- ---- denials

abbrev IsDenial : List ℕ → Type 0
IsDenial text = (rest : List ℕ) × (text ≡ codes "denied" ++ 32 ∷ rest)

refused_is : (name : List ℕ) (r : Refusal) → IsDenial (refusal_text name r)
refused_is name refusal.Invalid = (_, refl)
refused_is name refusal.NotFound = (_, refl)
refused_is name refusal.Exists = (_, refl)
refused_is name (refusal.Conflict had now) = (_, refl)
refused_is name refusal.Immutable = (_, refl)
refused_is name refusal.InUse = (_, refl)
refused_is name refusal.Devices = (_, refl)
refused_is name (refusal.Busy job) = (_, refl)
refused_is name (refusal.Bound node) = (_, refl)
refused_is name refusal.NotBound = (_, refl)
refused_is name (refusal.Failure why) = (_, refl)

either : (b : Bool) (x y : List ℕ) → IsDenial x → IsDenial y → IsDenial (if b then x else y)
either true x y h g = h
either false x y h g = g

denied_is : (c : Command) (r : Refusal) → IsDenial (denial_text c r)
denied_is (command.Invalid error) r = (_, refl)
denied_is (command.Apply object mode) r = refused_is (object_text object) r
denied_is (command.Delete t) r = refused_is (target_text t) r
denied_is (command.Schedule pod) r = refused_is (target_text (target.Pod pod)) r
denied_is (command.Release pod) r =
    either (is_unbound r) (refusal_text (key_text pod) r) (refusal_text (target_text (target.Pod pod)) r) (refused_is (key_text pod) r) (refused_is (target_text (target.Pod pod)) r)
denied_is (command.Adopt claim status) r = refused_is (target_text (target.Claim claim)) r

-- ---- plans and verdicts

-- what stands before the list of passed nodes
plan_is : (pod node index passed grants joins behind : List ℕ)
    → pod ++ codes " " ++ node ++ codes " at=" ++ index ++ codes " passed=" ++ passed ++ codes " grants=" ++ grants ++ codes " joins=" ++ joins ++ behind
    ≡ pod ++ 32 ∷ (node ++ 32 ∷ ((codes "at=" ++ index) ++ 32 ∷ (codes "passed=" ++ passed ++ codes " grants=" ++ grants ++ codes " joins=" ++ joins ++ behind)))
plan_is pod node index passed grants joins behind = simp append_assoc

verdict_is : (pod word index reason : List ℕ)
    → pod ++ codes " " ++ word ++ codes " at=" ++ index ++ codes " " ++ reason ≡ pod ++ 32 ∷ (word ++ 32 ∷ ((codes "at=" ++ index) ++ 32 ∷ reason))
verdict_is pod word index reason = simp append_assoc

two_clear : (pod node : List ℕ) → list_all is_unbroken (pod ∷ node ∷ []) ≡ true → (lacks 32 pod ≡ true) × (lacks 32 node ≡ true)
two_clear pod node h = let p = and_parts _ _ h in (p.0, (and_parts _ _ p.1).0)

one_clear : (pod word : List ℕ) → lacks 32 word ≡ true → list_all is_unbroken (pod ∷ []) ≡ true → (lacks 32 pod ≡ true) × (lacks 32 word ≡ true)
one_clear pod word w h = ((and_parts _ _ h).0, w)

word_by : (b : Bool) (x y : List ℕ) → lacks 32 x ≡ true → lacks 32 y ≡ true → lacks 32 (if b then x else y) ≡ true
word_by true x y h g = h
word_by false x y h g = g

word_clear : (r : Reason) → lacks 32 (verdict_word r) ≡ true
word_clear (reason.Missing claim) = refl
word_clear (reason.Users claim) = refl
word_clear (reason.Nodes nodes) =
    word_by (has_fault nodes) (codes "fault") (if has_budget nodes then codes "budget" else codes "unsatisfiable") refl
    (word_by (has_budget nodes) (codes "budget") (codes "unsatisfiable") refl refl)

plan_index : (pod : Key) (plan : Plan) (behind : List ℕ) → HasIndex (key_text pod ∷ plan.node ∷ []) plan.at (plan_text pod plan ++ behind)
plan_index pod plan behind = record {
  first = key_text pod;
  second = plan.node;
  behind = codes "passed=" ++ listed passed_text plan.passed ++ codes " grants=" ++ listed grant_text plan.grants ++ codes " joins=" ++ listed key_text plan.joins ++ behind;
  is = plan_is (key_text pod) plan.node (decimal plan.at) (listed passed_text plan.passed) (listed grant_text plan.grants) (listed key_text plan.joins) behind;
  clear = two_clear (key_text pod) plan.node;
}

-- ---- each event

pub spelled : (e : Event) → IsSpelled e
spelled (Applied object mode) = record { rest = object_text object; is = refl; told = tt }
spelled (Deleted t) = record { rest = target_text t; is = refl; told = tt }
spelled (Reserved pod plan) = record {
  rest = plan_text pod plan ++ [];
  is = ap (λ l. codes "reserved " ++ l) (sym (append-nil (plan_text pod plan)));
  told = plan_index pod plan [];
}
spelled (Refused pod plan why) = record {
  rest = plan_text pod plan ++ (codes " why=" ++ failure_text why);
  is = ap (λ l. codes "refused " ++ l) (append_assoc (plan_text pod plan) (codes " why=") (failure_text why));
  told = plan_index pod plan (codes " why=" ++ failure_text why);
}
spelled (Wrote pod claim seen) = record { rest = _; is = refl; told = tt }
spelled (Conflict pod claim had now) = record { rest = _; is = refl; told = tt }
spelled (Unreserved pod) = record { rest = key_text pod; is = refl; told = tt }
spelled (Bound pod node) = record { rest = _; is = refl; told = tt }
spelled (VerdictGiven pod verdict) = record {
  rest = key_text pod ++ codes " " ++ verdict_word verdict.reason ++ codes " at=" ++ decimal verdict.at ++ codes " " ++ reason_text verdict.reason;
  is = refl;
  told = record {
    first = key_text pod;
    second = verdict_word verdict.reason;
    behind = reason_text verdict.reason;
    is = verdict_is (key_text pod) (verdict_word verdict.reason) (decimal verdict.at) (reason_text verdict.reason);
    clear = one_clear (key_text pod) (verdict_word verdict.reason) (word_clear verdict.reason);
  };
}
spelled (Contended pod attempts) = record { rest = _; is = refl; told = tt }
spelled (Released pod) = record { rest = key_text pod; is = refl; told = tt }
spelled (Adopted claim status) = record { rest = _; is = refl; told = tt }
spelled (Denied c r) = let d = denied_is c r in record { rest = d.0; is = d.1; told = tt }

-- ---- the kind

-- whether the event of this kind has an index
abbrev decides : List ℕ → Bool
decides word = bytes_eq word (codes "reserved") || (bytes_eq word (codes "refused") || bytes_eq word (codes "verdict"))

decides_is : (e : Event) → is_some (decided_at e) ≡ decides (kind_word e)
decides_is (Applied object mode) = refl
decides_is (Deleted t) = refl
decides_is (Reserved pod plan) = refl
decides_is (Refused pod plan why) = refl
decides_is (Wrote pod claim seen) = refl
decides_is (Conflict pod claim had now) = refl
decides_is (Unreserved pod) = refl
decides_is (Bound pod node) = refl
decides_is (VerdictGiven pod verdict) = refl
decides_is (Contended pod attempts) = refl
decides_is (Released pod) = refl
decides_is (Adopted claim status) = refl
decides_is (Denied c r) = refl

pub both_decide : (d e : Event) → kind_word d ≡ kind_word e → is_some (decided_at d) ≡ is_some (decided_at e)
both_decide d e same = decides_is d ∙ ap decides same ∙ sym (decides_is e)

pub kind_clear : (e : Event) → (lacks 32 (kind_word e) ≡ true) × (map clean (kind_word e) ≡ kind_word e)
kind_clear (Applied object mode) = (refl, refl)
kind_clear (Deleted t) = (refl, refl)
kind_clear (Reserved pod plan) = (refl, refl)
kind_clear (Refused pod plan why) = (refl, refl)
kind_clear (Wrote pod claim seen) = (refl, refl)
kind_clear (Conflict pod claim had now) = (refl, refl)
kind_clear (Unreserved pod) = (refl, refl)
kind_clear (Bound pod node) = (refl, refl)
kind_clear (VerdictGiven pod verdict) = (refl, refl)
kind_clear (Contended pod attempts) = (refl, refl)
kind_clear (Released pod) = (refl, refl)
kind_clear (Adopted claim status) = (refl, refl)
kind_clear (Denied c r) = (refl, refl)

pub kind_ends : (e : Event) → lacks 10 (kind_word e) ≡ true
kind_ends (Applied object mode) = refl
kind_ends (Deleted t) = refl
kind_ends (Reserved pod plan) = refl
kind_ends (Refused pod plan why) = refl
kind_ends (Wrote pod claim seen) = refl
kind_ends (Conflict pod claim had now) = refl
kind_ends (Unreserved pod) = refl
kind_ends (Bound pod node) = refl
kind_ends (VerdictGiven pod verdict) = refl
kind_ends (Contended pod attempts) = refl
kind_ends (Released pod) = refl
kind_ends (Adopted claim status) = refl
kind_ends (Denied c r) = refl
