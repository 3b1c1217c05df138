-- What the lanes of a crew did, part by part.
use Rattle.std.proofs.Common.{ℕ, suc, ◌≡◌, ◌∙◌, ◌+◌, ◌≤◌, ◌<◌, ◌++◌, List, [], ◌∷◌, get_or, length, refl, sym, ap, subst, arith, append-nil, append_assoc, length-append}
use mathlib.Core.List.{IsPrefix}
use Rattle.cluster.specs.declared.entry.Entry.{Entry}
use Rattle.crew.specs.Chains.{AllRan, AllReady, Ran, Ready}
use Rattle.turn_lock.specs.Known.{IsFree, IsOf, Known, Opened}
use Rattle.sched_job.specs.declared.run.JobEnd.{JobEnd}
use Rattle.sched_job.specs.declared.work.Work.{Work}
use Rattle.sched_job.specs.Going.{EndsBy, Worked}
use Rattle.sched_job.specs.Steps.{run_of}
use Rattle.sched_job.specs.declared.member.Member.{Member}
use Rattle.sched_job.specs.Dealt.{AreMembers, works_in}
use Rattle.sched_job.specs.Members.{Gives, Needs}
use Rattle.sched_job.specs.Parts.{AllDid, Part, added_of, ends_of, works_of}
use Rattle.sched_job.specs.Passes.{AllBegin, AreFree, AreFresh, owns, shares}

-- what the crate's members need and give
abbrev pub needs : {X : Type 0} → Member X → Known Entry → Type 0
needs j p = Needs j.lock.now j.work p

abbrev pub gives : {X : Type 0} → Member X → Known Entry → JobEnd → Known Entry → Type 0
gives j p x q = Gives j.lock.now j.work j.budget p x q

-- ---- before

ready_list : {X : Type 0} (lock : Opened Entry) (budget : ℕ) (ms : List (Member X)) (p : Known Entry) → AreMembers lock budget ms → IsOf lock p → IsFree p → Ready needs gives ms p
ready_list lock budget [] p are of free = tt
ready_list lock budget (m ∷ ms) p are of free =
    let is = are.0 in (
      record { of = subst (λ (l : Opened Entry). IsOf l p) (sym is.lock_is) of; free = free; ready = is.ready; some = is.some },
      λ x q g. ready_list lock budget ms q are.1 (subst (λ (l : Opened Entry). IsOf l q) is.lock_is g.of) g.free,
    )

pub all_ready : {X : Type 0} (lock : Opened Entry) (budget : ℕ) (ls : List (List (Member X))) (ps : List (Known Entry)) → length ls ≡ length ps → ((k : ℕ) (d : List (Member X)) → k < length ls → AreMembers lock budget (get_or ls k d)) → AreFresh lock ps → AllReady needs gives ls ps
all_ready lock budget [] [] n are fresh = tt
all_ready lock budget [] (p ∷ ps) n are fresh = absurd (omega arith)
all_ready lock budget (l ∷ ls) [] n are fresh = absurd (omega arith)
all_ready lock budget (l ∷ ls) (p ∷ ps) n are fresh = (
  ready_list lock budget l p (are 0 l (omega arith)) fresh.0.0 fresh.0.1,
  all_ready lock budget ls ps (omega arith) (λ k d lt. are (suc k) d (omega arith)) fresh.1,
)

-- ---- one lane

pub prefix_trans : (a b c : List Entry) → IsPrefix a b → IsPrefix b c → IsPrefix a c
prefix_trans a b c p q = (p.0 ++ q.0, sym (append_assoc a p.0 q.0) ∙ ap (λ (xs : List Entry). xs ++ q.0) p.1 ∙ q.1)

prefix_le : (a b : List Entry) → IsPrefix a b → length a ≤ length b
prefix_le a b p = let e : length (a ++ p.0) ≡ length b = ap length p.1 in omega (arith, length-append a p.0)

pub did_on : (budget number base : ℕ) (h h' : List Entry) (ps : List Part) → IsPrefix h h' → AllDid budget number base h ps → AllDid budget number base h' ps
did_on budget number base h h' [] pre did = tt
did_on budget number base h h' (p ∷ ps) pre did = (
  record { from = did.0.from; made = did.0.made; begins = prefix_trans p.front h h' did.0.begins pre; ends = did.0.ends },
  did_on budget number base h h' ps pre did.1,
)

pub did_append : (budget number base : ℕ) (h : List Entry) (ps qs : List Part) → AllDid budget number base h ps → AllDid budget number base h qs → AllDid budget number base h (ps ++ qs)
did_append budget number base h [] qs a b = b
did_append budget number base h (p ∷ ps) qs a b = (a.0, did_append budget number base h ps qs a.1 b)

-- what the jobs of one list did with their pass
pub record LaneDid {X : Type 0} (lock : Opened Entry) (budget base : ℕ) (ms : List (Member X)) (xs : List JobEnd) (p q : Known Entry) : Type 0 where
  pub parts : List Part
  pub did : AllDid budget lock.number base q.front parts
  pub works_are : works_of parts ≡ works_in ms
  pub ends_are : ends_of parts ≡ xs
  pub own : q.own ≡ p.own ++ added_of parts
  pub share : q.share ≡ p.share
  pub of : IsOf lock q
  pub free : IsFree q
  pub begins : IsPrefix p.front q.front

pub lane_did : {X : Type 0} (lock : Opened Entry) (budget base : ℕ) (ms : List (Member X)) (xs : List JobEnd) (p q : Known Entry) → AreMembers lock budget ms → IsOf lock p → IsFree p → base ≤ length p.front → Ran needs gives ms xs p q → LaneDid lock budget base ms xs p q
lane_did lock budget base [] [] p q are of free le ran = record {
  parts = [];
  did = tt;
  works_are = refl;
  ends_are = refl;
  own = ap (λ (k : Known Entry). k.own) (sym ran) ∙ sym (append-nil p.own);
  share = ap (λ (k : Known Entry). k.share) (sym ran);
  of = subst (IsOf lock) ran of;
  free = subst IsFree ran free;
  begins = ([], append-nil p.front ∙ ap (λ (k : Known Entry). k.front) ran);
}
lane_did lock budget base [] (x ∷ xs) p q are of free le ran = absurd ran
lane_did lock budget base (m ∷ ms) [] p q are of free le ran = absurd ran
lane_did lock budget base (m ∷ ms) (x ∷ xs) p q are of free le ran =
    let k : Known Entry = ran.0 in
    let g : Gives m.lock.now m.work m.budget p x k = ran.1 in
    let of_k : IsOf lock k = subst (λ (l : Opened Entry). IsOf l k) are.0.lock_is g.of in
    let worked : Worked (run_of (length p.front) budget m.work) p k x = subst (λ (b : ℕ). Worked (run_of (length p.front) b m.work) p k x) are.0.budget_is g.worked in
    let longer = prefix_le p.front k.front worked.did.extends in
    let r = lane_did lock budget base ms xs k q are.1 of_k g.free (omega arith) ran.2 in
    let part : Part = record { work = m.work; from = length p.front; added = worked.added; front = k.front; end = x } in
    record {
      parts = part ∷ r.parts;
      did = (
        record {
          from = le;
          made = worked.did.made;
          begins = r.begins;
          ends = subst (λ (n : ℕ). EndsBy (run_of (length p.front) budget m.work) k.front worked.added n x) of_k.1 worked.ends;
        },
        r.did,
      );
      works_are = ap (λ (ws : List Work). m.work ∷ ws) r.works_are;
      ends_are = ap (λ (es : List JobEnd). x ∷ es) r.ends_are;
      own = r.own ∙ ap (λ (ns : List ℕ). ns ++ added_of r.parts) (ap (λ (z : Known Entry). z.own) worked.did.is) ∙ append_assoc p.own worked.added (added_of r.parts);
      share = r.share ∙ ap (λ (z : Known Entry). z.share) worked.did.is;
      of = r.of;
      free = r.free;
      begins = prefix_trans p.front k.front q.front worked.did.extends r.begins;
    }

-- ---- all lanes

abbrev pub all_works : {X : Type 0} → List (List (Member X)) → List Work
all_works [] = []
all_works (l ∷ ls) = works_in l ++ all_works ls

works_append : (ps qs : List Part) → works_of (ps ++ qs) ≡ works_of ps ++ works_of qs
works_append [] qs = refl
works_append (p ∷ ps) qs = ap (λ (ws : List Work). p.work ∷ ws) (works_append ps qs)

ends_append : (ps qs : List Part) → ends_of (ps ++ qs) ≡ ends_of ps ++ ends_of qs
ends_append [] qs = refl
ends_append (p ∷ ps) qs = ap (λ (es : List JobEnd). p.end ∷ es) (ends_append ps qs)

added_append : (ps qs : List Part) → added_of (ps ++ qs) ≡ added_of ps ++ added_of qs
added_append [] qs = refl
added_append (p ∷ ps) qs = ap (λ (ns : List ℕ). p.added ++ ns) (added_append ps qs) ∙ sym (append_assoc p.added (added_of ps) (added_of qs))

-- what all lists did, in whatever history begins with what each pass saw last
pub record LanesDid {X : Type 0} (lock : Opened Entry) (budget : ℕ) (ls : List (List (Member X))) (ends : List JobEnd) (ps qs : List (Known Entry)) : Type 0 where
  pub parts : List Part
  pub did : (h : List Entry) → AllBegin qs h → AllDid budget lock.number (length lock.opening) h parts
  pub works_are : works_of parts ≡ all_works ls
  pub ends_are : ends_of parts ≡ ends
  pub own : owns qs ≡ added_of parts
  pub share : shares qs ≡ shares ps
  pub free : AreFree lock qs
  pub as_many : length qs ≡ length ps
  pub begins : (h : List Entry) → 0 < length ps → AllBegin qs h → IsPrefix lock.opening h

pub lanes_did : {X : Type 0} (lock : Opened Entry) (budget : ℕ) (ls : List (List (Member X))) (ends : List JobEnd) (ps qs : List (Known Entry)) → ((k : ℕ) (d : List (Member X)) → k < length ls → AreMembers lock budget (get_or ls k d)) → AreFresh lock ps → AllRan needs gives ls ends ps qs → LanesDid lock budget ls ends ps qs
lanes_did lock budget [] ends [] [] are fresh ran = record { parts = []; did = λ h b. tt; works_are = refl; ends_are = sym ran; own = refl; share = refl; free = tt; as_many = refl; begins = λ h lt b. absurd (omega arith) }
lanes_did lock budget [] ends (p ∷ ps) qs are fresh ran = absurd ran
lanes_did lock budget [] ends [] (q ∷ qs) are fresh ran = absurd ran
lanes_did lock budget (l ∷ ls) ends [] qs are fresh ran = absurd ran
lanes_did lock budget (l ∷ ls) ends (p ∷ ps) [] are fresh ran = absurd ran
lanes_did lock budget (l ∷ ls) ends (p ∷ ps) (q ∷ qs) are fresh ran =
    let f = fresh.0 in
    let le : length lock.opening ≤ length p.front = (let e = ap length f.2 in omega arith) in
    let lane = lane_did lock budget (length lock.opening) l ran.0 p q (are 0 l (omega arith)) f.0 f.1 le ran.3 in
    let rest = lanes_did lock budget ls ran.1 ps qs (λ k d lt. are (suc k) d (omega arith)) fresh.1 ran.4 in
    record {
      parts = lane.parts ++ rest.parts;
      did = λ h b. did_append budget lock.number (length lock.opening) h lane.parts rest.parts (did_on budget lock.number (length lock.opening) q.front h lane.parts b.0 lane.did) (rest.did h b.1);
      works_are = works_append lane.parts rest.parts ∙ ap (λ (ws : List Work). ws ++ works_of rest.parts) lane.works_are ∙ ap (λ (ws : List Work). works_in l ++ ws) rest.works_are;
      ends_are = ends_append lane.parts rest.parts ∙ ap (λ (es : List JobEnd). es ++ ends_of rest.parts) lane.ends_are ∙ ap (λ (es : List JobEnd). ran.0 ++ es) rest.ends_are ∙ sym ran.2;
      own = ap (λ (ns : List ℕ). ns ++ owns qs) (lane.own ∙ ap (λ (ns : List ℕ). ns ++ added_of lane.parts) f.3) ∙ ap (λ (ns : List ℕ). added_of lane.parts ++ ns) rest.own ∙ sym (added_append lane.parts rest.parts);
      share = ap (λ (n : ℕ). n + shares qs) lane.share ∙ ap (λ (n : ℕ). p.share + n) rest.share;
      free = ((lane.of, lane.free), rest.free);
      as_many = (let e = rest.as_many in omega arith);
      begins = λ h lt b. subst (λ (xs : List Entry). IsPrefix xs h) f.2 (prefix_trans p.front q.front h lane.begins b.0);
    }
