-- What a crew leaves of the passes, and what its jobs did.
use Rattle.std.proofs.Common.{ℕ, ◌≡◌, ◌∙◌, ◌<◌, List, [], length, map, get_or, sym, ap, subst, arith, Result, Ok, Err, IfOk, IfErr}
use mathlib.Core.List.{IsPrefix}
use Rattle.std.proofs.lemmas.List.{length-map}
use Rattle.cluster.specs.declared.entry.Entry.{Entry}
use Rattle.crew.specs.Chains.{AllRan, AllReady}
use Rattle.turn_lock.specs.Known.{Known, Opened}
use Rattle.sched_job.specs.declared.run.JobEnd.{JobEnd}
use Rattle.sched_job.specs.declared.work.Work.{Work}
use Rattle.sched_job.specs.declared.member.Member.{Member}
use Rattle.sched_job.specs.Dealt.{AreMembers, dealt, works_in}
use Rattle.sched_job.specs.Passes.{AllBegin, AreFree, AreFresh, Joined, owns, shares}
use Rattle.sched_job.specs.Together.{DidAll, SameWorks}
use Rattle.sched_job.proofs.Dealing.{dealt_is_same}
use Rattle.sched_job.proofs.Laning.{all_ready, gives, lanes_did, needs}
use Rattle.sched_job.proofs.Passing.{fresh_begins, fresh_free, fresh_owns}

-- the passes after the crew, whether or not it ran the jobs
pub record Left (lock : Opened Entry) (ps qs : List (Known Entry)) : Type 0 where
  pub free : AreFree lock qs
  pub as_many : length qs ≡ length ps
  pub share : shares qs ≡ shares ps
  pub begins : (h : List Entry) → AllBegin qs h → IsPrefix lock.opening h

unrun : (lock : Opened Entry) (ps qs : List (Known Entry)) → AreFresh lock ps → 0 < length ps → qs ≡ ps → Left lock ps qs
unrun lock ps qs fresh some same = record {
  free = subst (AreFree lock) (sym same) (fresh_free lock ps fresh);
  as_many = ap length same;
  share = ap shares same;
  begins = λ h b. fresh_begins lock ps h fresh some (subst (λ (ks : List (Known Entry)). AllBegin ks h) same b);
}

module _ {X V : Type 0} (f : V → List (Member X)) (lock : Opened Entry) (budget n : ℕ) (vs : List V) (ps : List (Known Entry)) (some : 0 < n) (len : length vs ≡ n) (count : length ps ≡ n) (are : (k : ℕ) (d : List (Member X)) → k < n → AreMembers lock budget (get_or (map f vs) k d)) (fresh : AreFresh lock ps) where
  lists : length (map f vs) ≡ n
  lists = length-map vs f ∙ len

  within : (k : ℕ) (d : List (Member X)) → k < length (map f vs) → AreMembers lock budget (get_or (map f vs) k d)
  within k d lt = are k d (subst (λ (m : ℕ). k < m) lists lt)

  pub ready_all : AllReady needs gives (map f vs) ps
  ready_all = all_ready lock budget (map f vs) ps (lists ∙ sym count) within fresh

  pub left_by : {A B : Type 0} (items : A → List JobEnd) (U : B → Type 0) (qs : List (Known Entry)) (r : Result A B) → IfOk r (λ ends. AllRan needs gives (map f vs) (items ends) ps qs) → IfErr r (λ u. U u × (qs ≡ ps)) → Left lock ps qs
  left_by items U qs (Ok ends) ran not =
      let d = lanes_did lock budget (map f vs) (items ends) ps qs within fresh ran in
      record { free = d.free; as_many = d.as_many; share = d.share; begins = λ h b. d.begins h (omega arith) b }
  left_by items U qs (Err u) ran not = unrun lock ps qs fresh (omega arith) not.1

  pub did_all : (works : List Work) (ends : List JobEnd) (qs : List (Known Entry)) (whole : Known Entry) → ((k : ℕ) (d : List (Member X)) → k < n → works_in (get_or (map f vs) k d) ≡ dealt k n 0 works) → AllRan needs gives (map f vs) ends ps qs → Joined lock qs whole → DidAll lock budget works ends whole
  did_all works ends qs whole so ran j =
      let d = lanes_did lock budget (map f vs) ends ps qs within fresh ran in
      record {
        parts = d.parts;
        did = d.did whole.front j.begin;
        own = j.own ∙ d.own;
        works_are = subst (λ (ws : List Work). SameWorks ws works) (sym d.works_are) (dealt_is_same n (map f vs) works some lists so);
        ends_are = d.ends_are;
      }

-- without a job, nothing is added
pub none_added : (lock : Opened Entry) (ps qs : List (Known Entry)) (whole : Known Entry) → AreFresh lock ps → qs ≡ ps → Joined lock qs whole → whole.own ≡ []
none_added lock ps qs whole fresh same j = j.own ∙ ap owns same ∙ fresh_owns lock ps fresh
