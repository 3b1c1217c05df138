-- What a ledger remembers, with one entry more.
use Rattle.std.proofs.Common.{ℕ, zero, suc, ◌+◌, ◌<◌, ◌≤◌, ◌≡◌, ◌∙◌, List, [], ◌∷◌, ◌++◌, Bool, true, false, ◌&&◌, ◌||◌, cond, length, refl, sym, ap, subst, arith, drop, get_or, length-append, append_assoc}
use Rattle.std.specs.List.{list_any}
use Rattle.std.proofs.lemmas.Cmp.{nat_list_eq_equiv}
use Rattle.std.proofs.lemmas.List.{take_all, take-append-le}
use Rattle.std.proofs.lemmas.List.Folds.{list_any-append}
use Rattle.object_fields.specs.declared.key.DeviceId.{DeviceId}
use Rattle.pool_view.specs.declared.inventory.Inventory.{Inventory}
use Rattle.pool_view.specs.declared.names.PoolName.{PoolName}
use Rattle.pool_view.specs.Names.{text_eq}
use Rattle.pool_view.specs.Usable.{node_devices, pool_named}
use Rattle.counter_sets.specs.Holding.{Holders}
use Rattle.counter_sets.specs.Totals.{KeptCounters}
use Rattle.cluster.specs.declared.entry.Entry.{Entry}
use Rattle.cluster.specs.declared.entry.Event.{Event}
use Rattle.cluster.specs.declared.entry.JobState.{JobState}
use Rattle.cluster.specs.declared.plan.DeviceResult.{DeviceResult}
use Rattle.cluster.specs.declared.state.Granted.{Granted}
use Rattle.cluster.specs.declared.state.State.{State}
use Rattle.cluster.specs.Held.{devices_held}
use Rattle.cluster.specs.History.{state_at, state_of}
use Rattle.request_rules.specs.Growth.{ClaimSpec}
use Rattle.request_rules.specs.Lists.{Each}
use Rattle.allocations.specs.Growth.{SameObjects, is_in_pool}
use Rattle.allocations.specs.Lacking.{Dates, IsLacking, Lacking, freed_for}
use Rattle.allocations.specs.Lost.{devices_of}
use Rattle.histories.specs.Growth.{AreDatesOf, changes_objects, freed_at, lost_by, may_free, objects_at}
use Rattle.histories.specs.Legal.{Legal, Step}
use Rattle.node_memo.specs.declared.nodes.LackingNode.{LackingNode}
use Rattle.node_memo.specs.Dated.{names}
use Rattle.node_memo.specs.Memo.{IsAmong, NodesFields, TellsRow, lacking_by}
use Rattle.ledger_core.specs.Ledger.{IsKept, IsNote}
use Rattle.ledger_core.specs.Remembered.{AreSet, AreTrueOf, GoesOn, IsSame, IsTrueOf, Remembers, pool_of, pools_held, pools_lost, set_in}
use Rattle.ledger_core.proofs.Giving.{item_at}
use Rattle.ledger_core.proofs.Histories.{Legal-more}

-- ---- the pools of devices

held_by : (r : DeviceResult) (rs : List DeviceResult) (b : Bool) → cond b (pools_held rs) (pool_of r.device ∷ pools_held rs) ≡ cond b [] (pool_of r.device ∷ []) ++ pools_held rs
held_by r rs true = refl
held_by r rs false = refl

pub held_first : (r : DeviceResult) (rs : List DeviceResult) → pools_held (r ∷ rs) ≡ pools_held (r ∷ []) ++ pools_held rs
held_first r rs = held_by r rs r.admin

pub held_next : (before found all : List PoolName) (r : DeviceResult) (rs : List DeviceResult) → found ≡ before ++ pools_held (r ∷ []) → before ++ pools_held (r ∷ rs) ≡ all → found ++ pools_held rs ≡ all
held_next before found all r rs new old =
    ap (λ (ps : List PoolName). ps ++ pools_held rs) new
    ∙ append_assoc before (pools_held (r ∷ [])) (pools_held rs)
    ∙ ap (λ (ps : List PoolName). before ++ ps) (sym (held_first r rs))
    ∙ old

or_cond : (a b : Bool) (x y : ℕ) → cond b x (cond a x y) ≡ cond (a || b) x y
or_cond true true x y = refl
or_cond true false x y = refl
or_cond false b x y = refl

-- which dates are set
any_set : (index : ℕ) (p : PoolName) (qs : List PoolName) (date : ℕ) → set_in index p qs date ≡ cond (list_any (names p) qs) index date
any_set index p [] date = refl
any_set index p (q ∷ qs) date = any_set index p qs (cond (names p q) index date) ∙ or_cond (names p q) (list_any (names p) qs) index date

in_pool : (p : PoolName) (d : DeviceId) → names p (pool_of d) ≡ is_in_pool p d
in_pool p d =
    ap (λ (b : Bool). b && text_eq p.pool d.pool) (nat_list_eq_equiv.symm p.driver d.driver)
    ∙ ap (λ (b : Bool). text_eq d.driver p.driver && b) (nat_list_eq_equiv.symm p.pool d.pool)

any_by : (p : PoolName) (r : DeviceResult) (rs : List DeviceResult) (b : Bool) → list_any (names p) (pools_held rs) ≡ list_any (is_in_pool p) (devices_held rs)
    → list_any (names p) (cond b (pools_held rs) (pool_of r.device ∷ pools_held rs)) ≡ list_any (is_in_pool p) (cond b (devices_held rs) (r.device ∷ devices_held rs))
any_by p r rs true later = later
any_by p r rs false later = ap (λ (b : Bool). b || list_any (names p) (pools_held rs)) (in_pool p r.device) ∙ ap (λ (b : Bool). is_in_pool p r.device || b) later

any_held : (p : PoolName) (rs : List DeviceResult) → list_any (names p) (pools_held rs) ≡ list_any (is_in_pool p) (devices_held rs)
any_held p [] = refl
any_held p (r ∷ rs) = any_by p r rs r.admin (any_held p rs)

any_lost : (p : PoolName) (gs : List Granted) → list_any (names p) (pools_lost gs) ≡ list_any (is_in_pool p) (devices_of gs)
any_lost p [] = refl
any_lost p (g ∷ gs) =
    list_any-append (names p) (pools_held g.results) (pools_lost gs)
    ∙ ap (λ (b : Bool). b || list_any (names p) (pools_lost gs)) (any_held p g.results)
    ∙ ap (λ (b : Bool). list_any (is_in_pool p) (devices_held g.results) || b) (any_lost p gs)
    ∙ sym (list_any-append (is_in_pool p) (devices_held g.results) (devices_of gs))

-- the date of one pool more is set
pub set_next : (index : ℕ) (ps : List PoolName) (i : ℕ) (q : PoolName) (old new : Dates) (p : PoolName) (all : ℕ) → i < length ps → q ≡ get_or ps i q → freed_for new p ≡ cond (names p q) index (freed_for old p)
    → set_in index p (drop i ps) (freed_for old p) ≡ all → set_in index p (drop (i + 1) ps) (freed_for new p) ≡ all
set_next index ps i q old new p all lt is made so =
    ap (λ (n : ℕ). set_in index p (drop (i + 1) ps) n) made ∙ ap (λ (qs : List PoolName). set_in index p qs (freed_for old p)) (sym (item_at ps i q lt is)) ∙ so

-- ---- one entry more

abbrev pub ObjectsLaw : Type 0
ObjectsLaw = (h : List Entry) (e : Entry) → objects_at (h ++ e ∷ []) ≡ cond (changes_objects e.event) (length h + 1) (objects_at h)

abbrev pub FreedLaw : Type 0
FreedLaw = (h : List Entry) (e : Entry) (pool : PoolName) → freed_at (h ++ e ∷ []) pool ≡ cond (may_free (state_of h) e.event pool) (length h + 1) (freed_at h pool)

abbrev pub RiseLaw : Type 0
RiseLaw = (h more : List Entry) → objects_at h ≤ objects_at (h ++ more)

abbrev pub SameLaw : Type 0
SameLaw = (h : List Entry) (index : ℕ) → Legal h → index ≤ length h → objects_at h ≤ index → SameObjects (state_at h index) (state_of h)

abbrev pub LackingLaw : Type 0
LackingLaw = (h more : List Entry) (d later : Dates) (row : Lacking) → Legal (h ++ more) → AreDatesOf h d → AreDatesOf (h ++ more) later → row.index ≤ length h → IsLacking (state_of h) d row → IsLacking (state_of (h ++ more)) later row

may_free_is : (s : State) (e : Entry) (p : PoolName) → may_free s e.event p ≡ list_any (is_in_pool p) (devices_of (lost_by s e.event))
unfolding may_free
may_free_is s e p = refl

pub dated_more : ObjectsLaw → FreedLaw → (h : List Entry) (e : Entry) (d later : Dates) → AreDatesOf h d → AreSet (changes_objects e.event) (lost_by (state_of h) e.event) (length h + 1) d later → AreDatesOf (h ++ e ∷ []) later
dated_more objects freed h e d later are set = record {
  objects = set.date ∙ ap (λ (n : ℕ). cond (changes_objects e.event) (length h + 1) n) are.objects ∙ sym (objects h e);
  freed = λ p.
      set.freed p
      ∙ any_set (length h + 1) p (pools_lost (lost_by (state_of h) e.event)) (freed_for d p)
      ∙ ap (λ (b : Bool). cond b (length h + 1) (freed_for d p)) (any_lost p (lost_by (state_of h) e.event) ∙ sym (may_free_is (state_of h) e p))
      ∙ ap (λ (n : ℕ). cond (may_free (state_of h) e.event p) (length h + 1) n) (are.freed p)
      ∙ sym (freed h e p);
}

before_more : (h more : List Entry) → state_at (h ++ more) (length h) ≡ state_of h
before_more h more = ap state_of (take-append-le (length h) h more (omega arith) ∙ take_all (length h) h (omega arith))

-- the nodes, slices and classes are the same before entries more, if none of these is their date
same_before : SameLaw → (h more : List Entry) → Legal (h ++ more) → objects_at (h ++ more) ≤ length h → (state_of h).inventory ≡ (state_of (h ++ more)).inventory
same_before law h more legal le =
    let n = length-append h more in
    ap (λ (s : State). s.inventory) (sym (before_more h more)) ∙ sym (law (h ++ more) (length h) legal (omega (arith, n)) le).inventory

row_more : RiseLaw → SameLaw → LackingLaw → (h more : List Entry) (d later : Dates) (specs : List ClaimSpec) (budget : ℕ) (row : LackingNode) → Legal (h ++ more) → AreDatesOf h d → AreDatesOf (h ++ more) later
    → TellsRow (state_of h) d specs budget row (length h) → TellsRow (state_of (h ++ more)) later specs budget row (length (h ++ more))
row_more rise law lacking h more d later specs budget row legal are will old =
    let n = length-append h more in
    let within = old.within in
    let objects = are.objects in
    let dated = will.objects in
    let risen = rise h more in
    record {
      within = omega (arith, n, within);
      pools = λ le.
          subst (λ (i : Inventory). Each (λ o. IsAmong row.pools (pool_named o.slice)) (node_devices i row.node)) (same_before law h more legal (omega (arith, dated, le, within)))
          (old.pools (omega (arith, objects, dated, risen, le)));
      lacking = lacking h more d later (lacking_by specs budget row) legal are will old.within old.lacking;
    }

pub known_more : RiseLaw → SameLaw → LackingLaw → (h more : List Entry) (d : Dates) (memo : List NodesFields) → Legal (h ++ more) → AreDatesOf h d → IsTrueOf h memo → IsTrueOf (h ++ more) memo
known_more rise law lacking h more d memo legal are known = record {
  tells = λ later will. record {
    each = λ i n is. record {
      each = λ j row at. row_more rise law lacking h more d later n.specs n.budget row legal are will (((known.tells d are).each i n is).each j row at);
    };
  };
}

-- ---- lists of memos

pub nothing_known : (h : List Entry) → IsTrueOf h []
nothing_known h = record { tells = λ d are. record { each = λ i n is. absurd cc } }

pub none_known : (h : List Entry) → AreTrueOf h []
none_known h = λ i memo at. absurd cc

pub each_before : {X : Type 0} (P : X → Type 0) (xs ys : List X) → Each P (xs ++ ys) → Each P xs
each_before P [] ys h i x at = absurd cc
each_before P (z ∷ zs) ys h zero x at = h 0 x at
each_before P (z ∷ zs) ys h (suc i) x at = each_before P zs ys (λ j w is. h (suc j) w is) i x at

pub last_of_each : {X : Type 0} (P : X → Type 0) (xs : List X) (y : X) → Each P (xs ++ y ∷ []) → P y
last_of_each P [] y h = h 0 y refl
last_of_each P (z ∷ zs) y h = last_of_each P zs y (λ j w is. h (suc j) w is)

pub each_with : {X : Type 0} (P : X → Type 0) (xs : List X) (y : X) → Each P xs → P y → Each P (xs ++ y ∷ [])
each_with {X} P [] y h p zero x at = let f : y ≡ x = cc in subst P f p
each_with P [] y h p (suc i) x at = absurd cc
each_with P (z ∷ zs) y h p zero x at = h 0 x at
each_with P (z ∷ zs) y h p (suc i) x at = each_with P zs y (λ j w is. h (suc j) w is) p i x at

-- ---- a ledger

pub unset : (index : ℕ) (d : Dates) → AreSet false [] index d d
unset index d = record { date = refl; freed = λ p. refl }

pub note_unset : (event : Event) (s : State) (index : ℕ) (d : Dates) → IsNote event → AreSet (changes_objects event) (lost_by s event) index d d
note_unset event s index d note = rw (note.undated, note.kept s) (unset index d)

pub remembers_same : (h : List Entry) (d later : Dates) (memos : List (List NodesFields)) → IsSame d later → Remembers h d memos → Remembers h later memos
remembers_same h d later memos same was = record {
  dated = record { objects = same.objects ∙ was.dated.objects; freed = λ p. same.freed p ∙ was.dated.freed p };
  known = was.known;
}

-- it remembers with one entry more what it has to
pub remembers_more : GoesOn → (es : List Entry) (e : Entry) (s : State) (hs : Holders) (ts : KeptCounters) (job_states : List (ℕ × JobState)) (limit : ℕ) (d later : Dates) (memos : List (List NodesFields)) → IsKept es s hs ts job_states limit
    → Remembers es d memos → Step es e → AreSet (changes_objects e.event) (lost_by s e.event) (length es + 1) d later → Remembers (es ++ e ∷ []) later memos
remembers_more law es e s hs ts job_states limit d later memos kept was step set = record {
  dated = law.dated es e d later was.dated (subst (λ (t : State). AreSet (changes_objects e.event) (lost_by t e.event) (length es + 1) d later) kept.state_is set);
  known = λ i memo at. law.known es (e ∷ []) d memo (Legal-more es e kept.legal step) was.dated (was.known i memo at);
}
