-- A pod's claims have the versions that its uses assumed, as long as nobody else changes them.
use Rattle.std.proofs.Common.{ℕ, ◌≡◌, ◌∙◌, ⊎_elim, List, [], ◌∷◌, true, false, Option, None, Some, refl, sym, ap, subst}
use Rattle.std.specs.Prelude.{is_some}
use Rattle.std.specs.BTreeMap.{insert_entry}
use Rattle.object_fields.specs.declared.key.Key.{Key}
use Rattle.pool_view.specs.Names.{at_key, key_cmp}
use Rattle.cluster.specs.declared.plan.Grant.{Grant}
use Rattle.cluster.specs.declared.plan.Plan.{Plan}
use Rattle.cluster.specs.declared.state.ClaimState.{ClaimState}
use Rattle.cluster.specs.declared.state.State.{State}
use Rattle.cluster.specs.declared.state.Use.{Use}
use Rattle.cluster.specs.declared.state.Use.TheVariants.{Assumed, Written}
use Rattle.cluster.specs.Denied.{is_user}
use Rattle.cluster.specs.Reserved.{joined_by, with_grant, with_grants, with_joins, with_reserved}
use Rattle.cluster.specs.State.{use_in, version_by}
use Rattle.cluster.specs.Tables.{changed_at}
use Rattle.cluster.specs.Wrote.{with_written, written_by}
use Rattle.sched_job.proofs.Keys.{changed_none, changed_other, changed_there, insert_there, key_same, none_passes, same_or_not}

abbrev Claims : Type 0
Claims = List (Key × ClaimState)

abbrev SteadyAt : Key → Option ClaimState → Type 0
SteadyAt pod o = (had : ℕ) → use_in pod o ≡ Some (Assumed had) → version_by o ≡ had

-- each claim that the pod assumed at a version has this version
pub record Steady (pod : Key) (claims : Claims) : Type 0 where
  pub each : (claim : Key) → SteadyAt pod (at_key claims claim)

changed_steady : (pod j : Key) (f : ClaimState → ClaimState) (claims : Claims) (o : Option ClaimState) → at_key claims j ≡ o → ((c : ClaimState) → SteadyAt pod (Some (f c))) → SteadyAt pod o → SteadyAt pod (at_key (changed_at j f claims) j)
changed_steady pod j f claims None is fine old = subst (SteadyAt pod) (sym (ap (λ (t : Claims). at_key t j) (changed_none j f claims is) ∙ is)) old
changed_steady pod j f claims (Some c) is fine old = subst (SteadyAt pod) (sym (changed_there j f claims c is)) (fine c)

-- a change of one claim after which its use and its version fit
steady_changed : (pod j : Key) (f : ClaimState → ClaimState) (claims : Claims) → ((c : ClaimState) → SteadyAt pod (Some (f c))) → Steady pod claims → Steady pod (changed_at j f claims)
steady_changed pod j f claims fine s = record {
  each = λ k. ⊎_elim (λ same. subst (λ (x : Key). SteadyAt pod (at_key (changed_at j f claims) x)) (sym same) (changed_steady pod j f claims (at_key claims j) refl fine (s.each j)))
      (λ differ. subst (SteadyAt pod) (sym (changed_other j k f claims differ)) (s.each k)) (same_or_not k j);
}

some_had : (a b : ℕ) → Some (Assumed a) ≡ Some (Assumed b) → a ≡ b
some_had a b e = cc

steady_grants : (node : List ℕ) (pod : Key) (gs : List Grant) (claims : Claims) → Steady pod claims → Steady pod (with_grants node pod gs claims)
steady_grants node pod [] claims s = s
steady_grants node pod (g ∷ gs) claims s =
    steady_grants node pod gs (with_grant node pod g.claim g.results claims)
    (steady_changed pod g.claim (λ c. record c { grant = Some (record { node = node; results = g.results; published = false }); users = insert_entry key_cmp c.users pod (Assumed c.claim.version) }) claims
    (λ c had e. some_had c.claim.version had (sym (insert_there key_cmp c.users pod (Assumed c.claim.version) (key_same pod)) ∙ e)) s)

steady_joins : (pod : Key) (ks : List Key) (claims : Claims) → Steady pod claims → Steady pod (with_joins pod ks claims)
steady_joins pod [] claims s = s
steady_joins pod (k ∷ ks) claims s =
    steady_joins pod ks (changed_at k (joined_by pod) claims)
    (steady_changed pod k (joined_by pod) claims (λ c had e. some_had c.claim.version had (sym (insert_there key_cmp c.users pod (Assumed c.claim.version) (key_same pod)) ∙ e)) s)

-- a reservation for the pod
pub steady_reserved : (s : State) (job : ℕ) (pod : Key) (plan : Plan) → Steady pod s.claims → Steady pod (with_reserved job pod plan s).claims
steady_reserved s job pod plan old = steady_joins pod plan.joins (with_grants plan.node pod plan.grants s.claims) (steady_grants plan.node pod plan.grants s.claims old)

written_use : (pod : Key) (users : List (Key × Use)) (o : Option Use) (had : ℕ) → at_key users pod ≡ o → at_key (changed_at pod (λ (u : Use). Written) users) pod ≡ Some (Assumed had) → ⊥
written_use pod users None had is e = absurd (let old : at_key users pod ≡ Some (Assumed had) = sym (ap (λ (t : List (Key × Use)). at_key t pod) (changed_none pod (λ (u : Use). Written) users is)) ∙ e in cc)
written_use pod users (Some u) had is e = absurd (let now = changed_there pod (λ (u : Use). Written) users u is in cc)

-- the write of its use
pub steady_written : (s : State) (index : ℕ) (pod claim : Key) → Steady pod s.claims → Steady pod (with_written index pod claim s).claims
steady_written s index pod claim old = steady_changed pod claim (written_by index pod) s.claims (λ c had e. absurd (written_use pod c.users (at_key c.users pod) had refl e)) old

unused : (pod : Key) (claims : Claims) (claim : Key) (o : Option ClaimState) → at_key claims claim ≡ o → ((c : ClaimState) → o ≡ Some c → is_some (at_key c.users pod) ≡ false) → SteadyAt pod o
unused pod claims claim None is never_used had e = absurd cc
unused pod claims claim (Some c) is never_used had e = absurd (let n = never_used c refl in let t : is_some (at_key c.users pod) ≡ true = ap is_some e in cc)

-- a pod that uses no claim
pub steady_unused : (s : State) (pod : Key) → is_user s pod ≡ false → Steady pod s.claims
steady_unused s pod never_used = record {
  each = λ k. unused pod s.claims k (at_key s.claims k) refl (λ c there. none_passes (λ (c : ClaimState). is_some (at_key c.users pod)) k s.claims c never_used there);
}
