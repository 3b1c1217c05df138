-- What a worker did, as the connections that it served.
use Rattle.std.proofs.Common.{ℕ, ◌≡◌, ◌∙◌, ◌⊎◌, inl, inr, ◌++◌, true, false, List, [], ◌∷◌, Some, refl, sym, ap, subst}
use Rattle.cluster.specs.declared.entry.Entry.{Entry}
use Rattle.turn_lock.specs.Known.{Known}
use Rattle.dra_ports.specs.Causes.{Rose}
use Rattle.api_server.specs.declared.end.ConnEnd.{ConnEnd}
use Rattle.api_server.specs.declared.end.ConnEnd.TheVariants as conn_end
use Rattle.api_server.specs.declared.share_end.ShareEnd.{ShareEnd}
use Rattle.api_server.specs.declared.share_end.ShareEnd.TheVariants as share_end
use Rattle.api_server.specs.Talks.{AllGoOn, AreNext, AreTalks, AtDoor, NextDid, Served, ServedOne, ShareDid, Stopped, Talk, Terms, Unaccepted, WentOn, after_talk, after_talks, goes_on}
use Rattle.api_server.specs.Workers.{AllKept, HasEnd, IsShift, is_kept}

-- a worker's connections, one after another from one pass to another
pub record Did (t : Terms) (p q : Known Entry) (before now : AtDoor) (end : ShareEnd) : Type 0 where
  pub ks : List Talk
  pub talks : AreTalks t p q ks
  pub is : IsShift before now ks end

-- ---- two lists of connections

talks_join : (t : Terms) (p m q : Known Entry) (ks js : List Talk) → AreTalks t p m ks → AreTalks t m q js → AreTalks t p q (ks ++ js)
talks_join t p m q [] js a b = subst (λ (k : Known Entry). AreTalks t k q js) a b
talks_join t p m q (k ∷ ks) js (mid, is, more) b = (mid, is, talks_join t mid m q ks js more b)

doors_join : (d : AtDoor) (ks js : List Talk) → after_talks d (ks ++ js) ≡ after_talks (after_talks d ks) js
doors_join d [] js = refl
doors_join d (k ∷ ks) js = doors_join (after_talk d k) ks js

next_join : (d : AtDoor) (ks js : List Talk) → AreNext d.share ks → AreNext (after_talks d ks).share js → AreNext d.share (ks ++ js)
next_join d [] js a b = b
next_join d (k ∷ ks) js (left, number, more) b = (left, number, next_join (after_talk d k) ks js more b)

served_join : (t : Terms) (p m q : Known Entry) (before at now : AtDoor) (ks js : List Talk) → Served t p m before at ks → Served t m q at now js → Served t p q before now (ks ++ js)
served_join t p m q before at now ks js a b = record {
  talks = talks_join t p m q ks js a.talks b.talks;
  next = next_join before ks js a.next (subst (λ (d : AtDoor). AreNext d.share js) a.door b.next);
  door = b.door ∙ ap (λ (d : AtDoor). after_talks d js) a.door ∙ sym (doors_join before ks js);
}

has_last : (e : ConnEnd) (ks : List Talk) (k : Talk) → k.end ≡ e → HasEnd e (ks ++ k ∷ [])
has_last e [] k is = inl is
has_last e (x ∷ ks) k is = inr (has_last e ks k is)

kept_on : (e : ConnEnd) → goes_on e ≡ true → is_kept e ≡ true
kept_on conn_end.Closed on = refl
kept_on (conn_end.Wire error) on = refl
kept_on (conn_end.Full n) on = refl
kept_on conn_end.Memory on = absurd (cc)

pub all_kept : (ks : List Talk) → AllGoOn ks → AllKept ks
all_kept [] on = tt
all_kept (k ∷ ks) on = (kept_on k.end on.0, all_kept ks on.1)

kept_last : (n : ℕ) (ks : List Talk) (k : Talk) → AllKept ks → k.end ≡ conn_end.Full n → AllKept (ks ++ k ∷ [])
kept_last n [] k kept is = (ap is_kept is, tt)
kept_last n (x ∷ ks) k kept is = (kept.0, kept_last n ks k kept.1 is)

faults_kept : (d : AtDoor) (ks : List Talk) → (after_talks d ks).faults ≡ d.faults
faults_kept d [] = refl
faults_kept d (k ∷ ks) = faults_kept (after_talk d k) ks

-- ---- a shift

same_faults : (now d : AtDoor) → now ≡ d → now ≡ record d { faults = now.faults }
same_faults now d is = subst (λ (x : AtDoor). x ≡ record d { faults = x.faults }) (sym is) refl

faults_same : (before now : AtDoor) (ks : List Talk) → now ≡ after_talks before ks → now.faults ≡ before.faults
faults_same before now ks is = ap (λ (d : AtDoor). d.faults) is ∙ faults_kept before ks

-- nothing was accepted after these
unaccepted_door : (before at now : AtDoor) (ks : List Talk) → at ≡ after_talks before ks → now ≡ record at { faults = now.faults } → now ≡ record (after_talks before ks) { faults = now.faults }
unaccepted_door before at now ks is last = last ∙ ap (λ (d : AtDoor). record d { faults = now.faults }) is

same_pass : (t : Terms) (p m q : Known Entry) (ks : List Talk) → AreTalks t p m ks → q ≡ m → AreTalks t p q ks
same_pass t p m q ks are is = subst (λ (k : Known Entry). AreTalks t p k ks) (sym is) are

pub shift_of : (t : Terms) (p q : Known Entry) (before now : AtDoor) (end : ShareEnd) → ShareDid t p q before now end → Did t p q before now end
shift_of t p q before now share_end.Served (went, over) = record {
  ks = went.ks;
  talks = went.served.talks;
  is = record { next = went.served.next; door = same_faults now (after_talks before went.ks) went.served.door; ends = (went.go_on, over, faults_same before now went.ks went.served.door) };
}
shift_of t p q before now share_end.Door s =
    let went = s.went_on in
    let last : Unaccepted s.mid q s.door now × Rose s.door.faults now.faults = s.last in record {
      ks = went.ks;
      talks = same_pass t p s.mid q went.ks went.served.talks last.0.pass;
      is = record {
        next = went.served.next;
        door = unaccepted_door before s.door now went.ks went.served.door last.0.door;
        ends = subst (λ (n : ℕ). Rose n now.faults) (faults_same before s.door went.ks went.served.door) last.1;
      };
    }
shift_of t p q before now (share_end.Full n) s =
    let went = s.went_on in
    let last : ServedOne t s.mid q s.door now (conn_end.Full n) = s.last in
    let all = served_join t p s.mid q before s.door now went.ks (last.talk ∷ []) went.served last.served in record {
      ks = went.ks ++ last.talk ∷ [];
      talks = all.talks;
      is = record {
        next = all.next;
        door = same_faults now (after_talks before (went.ks ++ last.talk ∷ [])) all.door;
        ends = (has_last (conn_end.Full n) went.ks last.talk last.end_is, kept_last n went.ks last.talk (all_kept went.ks went.go_on) last.end_is, faults_same before now (went.ks ++ last.talk ∷ []) all.door);
      };
    }
shift_of t p q before now share_end.Memory s = at_memory s.last
  where
    at_memory : NextDid t s.mid q s.door now (Some share_end.Memory) → Did t p q before now share_end.Memory
    at_memory (inl last) =
        let went = s.went_on in
        let all = served_join t p s.mid q before s.door now went.ks (last.talk ∷ []) went.served last.served in record {
          ks = went.ks ++ last.talk ∷ [];
          talks = all.talks;
          is = record { next = all.next; door = same_faults now (after_talks before (went.ks ++ last.talk ∷ [])) all.door; ends = tt };
        }
    at_memory (inr (pass, door)) =
        let went = s.went_on in record {
          ks = went.ks;
          talks = same_pass t p s.mid q went.ks went.served.talks pass;
          is = record { next = went.served.next; door = same_faults now (after_talks before went.ks) (door ∙ went.served.door); ends = tt };
        }

-- a worker that wasn't begun
pub idle : (t : Terms) (p : Known Entry) (d : AtDoor) → Did t p p d d share_end.Memory
idle t p d = record { ks = []; talks = refl; is = record { next = tt; door = refl; ends = tt } }
