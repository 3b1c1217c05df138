-- What the connections of all workers made of an empty history.
use Rattle.std.proofs.Common.{ℕ, ◌≡◌, ◌∙◌, ◌≤◌, List, [], ◌∷◌, length, refl, sym, ap, subst, arith}
use mathlib.Core.List.{IsPrefix}
use Rattle.cluster.specs.declared.entry.Entry.{Entry}
use Rattle.histories.specs.Histories.{Each}
use Rattle.histories.specs.Legal.{Legal}
use Rattle.api_server.specs.Ledgers.{History}
use Rattle.turn_lock.specs.Known.{Known, Opened}
use Rattle.turn_lock.specs.Places.{OwnsAll, times}
use Rattle.api_server.specs.Talks.{AtDoor, Talk, Terms}
use Rattle.api_server.specs.Parts.{AllDid, IsOfJob, Part, PartDid, added_of, talks_of}
use Rattle.api_server.specs.Together.{AreOpened, DidAll}
use Rattle.api_server.specs.Whole.{AllStandIn, IsOfTalk, MadeBy, numbers_of}
use Rattle.api_server.specs.declared.serve_end.ServeEnd.{ServeEnd}
use Rattle.api_server.proofs.Owning.{Apart, no_other, stand_all}
use Rattle.api_server.proofs.Chaining.{prefix_trans, weaker}
use Rattle.api_server.proofs.Ending.{apart}

part_on : (t : Terms) (number : ℕ) (h h' : List Entry) (p : Part) → IsPrefix h h' → PartDid t number h p → PartDid t number h' p
part_on t number h h' p pre did = record {
  free = did.free;
  is = did.is;
  number_is = did.number_is;
  added_is = did.added_is;
  begins = prefix_trans p.new.front h h' did.begins pre;
  made = weaker (IsOfJob p.talk) (IsOfJob p.talk) 0 0 h h' p.added (λ e i. i) (omega arith) pre did.made;
}

did_on : (t : Terms) (number : ℕ) (h h' : List Entry) (ps : List Part) → IsPrefix h h' → AllDid t number h ps → AllDid t number h' ps
did_on t number h h' [] pre did = tt
did_on t number h h' (p ∷ ps) pre did = (part_on t number h h' p pre did.0, did_on t number h h' ps pre did.1)

pub made_by : (t : Terms) (lock : Opened Entry) (h : History) (whole : Known Entry) (ds now : List AtDoor) (e : ServeEnd) (n last limit : ℕ) (d : DidAll t lock whole ds now e) → lock.opening ≡ [] → IsPrefix whole.front h.entries → OwnsAll lock.opening h.entries whole.own → Legal h.entries → h.limit ≡ limit → lock.number ≡ limit → length h.entries ≤ limit → AreOpened 0 n last ds → length ds ≡ n
    → MadeBy t limit h (talks_of d.parts)
made_by t lock h whole ds now e n last limit d empty pre owns legal limit_is number_is within new count =
    let did : AllDid t lock.number h.entries d.parts = did_on t lock.number whole.front h.entries d.parts pre d.did in
    let own : OwnsAll [] h.entries (added_of d.parts) = subst (λ (o : List Entry). OwnsAll o h.entries (added_of d.parts)) empty (subst (OwnsAll lock.opening h.entries) d.own owns) in
    let w = d.worked in
    let once : Apart d.parts = λ m. subst (λ (ks : List Talk). times m (numbers_of ks) ≤ 1) (sym w.talks_are) (apart n last ds now w.shifts w.ends m new w.are count) in record {
      legal = legal;
      limit_is = limit_is;
      within = within;
      stand = subst (λ (m : ℕ). AllStandIn t m h.entries (talks_of d.parts)) number_is (stand_all t lock.number h.entries d.parts did once own);
      no_other = no_other t lock.number h.entries d.parts did own;
    }
