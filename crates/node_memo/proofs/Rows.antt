-- What rows say, where one is used and where one is kept.
use Rattle.std.proofs.Common.{Vec, Global, ℕ, zero, suc, ◌≡◌, ◌≤◌, ◌<◌, ◌+◌, ◌⊎◌, inl, inr, ⊎_elim, ◌∙◌, List, [], ◌∷◌, ◌++◌, Bool, true, false, ◌&&◌, Option, None, Some, length, get_or, set, refl, sym, ap, subst, arith, eqb, eq-eqb, nat_le}
use Rattle.std.proofs.lemmas.Bool.{eqb-true, leb-true}
use Rattle.std.specs.List.{slice_get, list_all, remove}
use Rattle.std.proofs.lemmas.Option.{get_or_from_slice_get, slice_get_within}
use Rattle.pool_view.specs.declared.names.PoolName.{PoolName}
use Rattle.pool_view.specs.Pools.{Offered}
use Rattle.pool_view.specs.Usable.{node_devices, pool_named}
use Rattle.api_cluster.specs.declared.types.Pod.{Pod}
use Rattle.cluster.specs.declared.state.State.{State}
use Rattle.request_rules.specs.Growth.{ClaimSpec, specs_of}
use Rattle.request_rules.specs.Lists.{Each}
use Rattle.walk.specs.Outcome.{Unsat}
use Rattle.allocations.specs.Claims.{wanted}
use Rattle.allocations.specs.Input.{outcome_on}
use Rattle.allocations.specs.Lacking.{Dates, IsLacking, IsSince, Lacking, freed_for}
use Rattle.shared_map.specs.declared.place.Place.{Place}
use Rattle.node_memo.specs.declared.nodes.LackingNode.{LackingNode}
use Rattle.node_memo.specs.Memo.{AreWith, IsAmong, IsKnownAt, IsRowSince, NodesFields, Tells, TellsOf, TellsRow, lacking_by}

-- ---- lists

left_of : (a b : Bool) → (a && b) ≡ true → a ≡ true
left_of true b e = refl
left_of false b e = absurd (cc)

right_of : (a b : Bool) → (a && b) ≡ true → b ≡ true
right_of true b e = e
right_of false b e = absurd (cc)

all_at : {X : Type 0} (test : X → Bool) (xs : List X) → list_all test xs ≡ true → (i : ℕ) (x : X) → slice_get xs i ≡ Some x → test x ≡ true
all_at test [] e i x h = absurd (cc)
all_at test (y ∷ ys) e zero x h = let f : y ≡ x = cc in ap test (sym f) ∙ left_of (test y) (list_all test ys) e
all_at test (y ∷ ys) e (suc i) x h = all_at test ys (right_of (test y) (list_all test ys) e) i x h

-- each element is what the test of it says
pub each_by : {X : Type 0} (P : X → Type 0) (test : X → Bool) (xs : List X) → ((x : X) → test x ≡ true → P x) → list_all test xs ≡ true → Each P xs
each_by P test xs one e = λ i x at. one x (all_at test xs e i x at)

pub each_end : {X : Type 0} (P : X → Type 0) (xs : List X) (y : X) → Each P xs → P y → Each P (xs ++ y ∷ [])
each_end {X} P [] y h p zero x at = let f : y ≡ x = cc in subst P f p
each_end P [] y h p (suc i) x at = absurd (cc)
each_end P (z ∷ zs) y h p zero x at = h 0 x at
each_end P (z ∷ zs) y h p (suc i) x at = each_end P zs y (λ j w is. h (suc j) w is) p i x at

pub each_less : {X : Type 0} (P : X → Type 0) (xs : List X) (k : ℕ) → Each P xs → Each P (remove xs k)
each_less P [] zero h i x at = absurd (cc)
each_less P [] (suc k) h i x at = absurd (cc)
each_less P (z ∷ zs) zero h i x at = h (suc i) x at
each_less P (z ∷ zs) (suc k) h zero x at = h 0 x at
each_less P (z ∷ zs) (suc k) h (suc i) x at = each_less P zs k (λ j w is. h (suc j) w is) i x at

set_there : {X : Type 0} (xs : List X) (k : ℕ) (v : X) (i : ℕ) (x : X) → slice_get (set xs k v) i ≡ Some x → (x ≡ v) ⊎ (slice_get xs i ≡ Some x)
set_there [] zero v i x at = absurd (cc)
set_there [] (suc k) v i x at = absurd (cc)
set_there (y ∷ ys) zero v zero x at = inl (cc)
set_there (y ∷ ys) zero v (suc i) x at = inr at
set_there (y ∷ ys) (suc k) v zero x at = inr at
set_there (y ∷ ys) (suc k) v (suc i) x at = set_there ys k v i x at

-- ---- rows

row_or : (r row : LackingNode) (old : List (Option LackingNode)) (i : ℕ) → (Some r ≡ Some row) ⊎ (slice_get old i ≡ Some (Some r)) → (r ≡ row) ⊎ (slice_get old i ≡ Some (Some r))
row_or r row old i (inl e) = inl (cc)
row_or r row old i (inr e) = inr e

-- the rows with one of them set are those that were there, and this one
pub set_with : (rows : List (Option LackingNode)) (k : ℕ) (row : LackingNode) → AreWith rows (set rows k (Some row)) row
set_with rows k row = record { each = λ i r at. row_or r row rows i (set_there rows k (Some row) i (Some r) at) }

before_by : (first rows : List (Option LackingNode)) (row r : LackingNode) (i : ℕ) → (slice_get rows i ≡ Some (Some r) → slice_get first i ≡ Some (Some r)) → (r ≡ row) ⊎ (slice_get rows i ≡ Some (Some r)) → (r ≡ row) ⊎ (slice_get first i ≡ Some (Some r))
before_by first rows row r i same (inl e) = inl e
before_by first rows row r i same (inr e) = inr (same e)

pub with_before : (first rows new : List (Option LackingNode)) (row : LackingNode) → ((i : ℕ) (r : LackingNode) → slice_get rows i ≡ Some (Some r) → slice_get first i ≡ Some (Some r)) → AreWith rows new row → AreWith first new row
with_before first rows new row same w = record { each = λ i r at. before_by first rows row r i (same i r) (w.each i r at) }

-- no row without a node is one with a node
pub none_pushed : (rows : List (Option LackingNode)) (i : ℕ) (r : LackingNode) → slice_get (rows ++ None ∷ []) i ≡ Some (Some r) → slice_get rows i ≡ Some (Some r)
none_pushed [] zero r at = absurd (cc)
none_pushed [] (suc i) r at = absurd (cc)
none_pushed (z ∷ zs) zero r at = at
none_pushed (z ∷ zs) (suc i) r at = none_pushed zs i r at

-- ---- what they say

-- nothing that a search of the node depends on has changed since the index of its row
pub tells_since : (s : State) (d : Dates) (specs : List ClaimSpec) (budget : ℕ) (row : LackingNode) (at : ℕ) → TellsRow s d specs budget row at → IsRowSince d row → IsSince s d row.node row.index
tells_since s d specs budget row at t since = record {
  objects = since.objects;
  pools = λ i o is. let among = t.pools since.objects i o is in since.pools among.position (pool_named o.slice) among.there;
}

-- so the row is true of the present index
pub tells_at : (s : State) (d : Dates) (specs : List ClaimSpec) (budget : ℕ) (row : LackingNode) (at : ℕ) → TellsRow s d specs budget row at → IsRowSince d row → TellsRow s d specs budget (record row { index = at }) at
tells_at s d specs budget row at t since = record {
  within = omega arith;
  pools = λ _. t.pools since.objects;
  lacking = record { none = λ _ claims same. t.lacking.none (tells_since s d specs budget row at t since) claims same };
}

-- what was found now
pub tells_new : (s : State) (d : Dates) (specs : List ClaimSpec) (budget : ℕ) (node : List ℕ) (devices : List Offered) (pools : List PoolName) (places : Vec Place Global) (at : ℕ) → devices ≡ node_devices s.inventory node
    → Each (λ o. IsAmong pools (pool_named o.slice)) devices → IsLacking s d (record { specs = specs; budget = budget; node = node; index = at })
    → TellsRow s d specs budget (record { node = node; index = at; pools = pools; places = places }) at
tells_new s d specs budget node devices pools places at are each lacking = record {
  within = omega arith;
  pools = λ _. subst (λ (os : List Offered). Each (λ o. IsAmong pools (pool_named o.slice)) os) are each;
  lacking = lacking;
}

told_by : (s : State) (d : Dates) (specs : List ClaimSpec) (budget : ℕ) (old : List (Option LackingNode)) (row r : LackingNode) (i at : ℕ)
    → TellsOf s d (record { specs = specs; budget = budget; rows = old }) at → TellsRow s d specs budget row at → (r ≡ row) ⊎ (slice_get old i ≡ Some (Some r)) → TellsRow s d specs budget r at
told_by s d specs budget old row r i at t new (inl e) = subst (λ (x : LackingNode). TellsRow s d specs budget x at) (sym e) new
told_by s d specs budget old row r i at t new (inr e) = t.each i r e

-- rows with one more that is true are true
pub tells_with : (s : State) (d : Dates) (specs : List ClaimSpec) (budget : ℕ) (old rows : List (Option LackingNode)) (row : LackingNode) (at : ℕ)
    → TellsOf s d (record { specs = specs; budget = budget; rows = old }) at → TellsRow s d specs budget row at → AreWith old rows row → TellsOf s d (record { specs = specs; budget = budget; rows = rows }) at
tells_with s d specs budget old rows row at t new w = record { each = λ i r is. told_by s d specs budget old row r i at t new (w.each i r is) }

-- and so are those of which one was looked at
pub tells_known : (s : State) (d : Dates) (specs : List ClaimSpec) (budget : ℕ) (old rows : List (Option LackingNode)) (position : ℕ) (node : List ℕ) (at : ℕ) → IsKnownAt old position node d
    → ((row : LackingNode) → slice_get old position ≡ Some (Some row) → AreWith old rows (record row { index = at }))
    → TellsOf s d (record { specs = specs; budget = budget; rows = old }) at → TellsOf s d (record { specs = specs; budget = budget; rows = rows }) at
tells_known s d specs budget old rows position node at known set t =
    tells_with s d specs budget old rows (record known.row { index = at }) at t
    (tells_at s d specs budget known.row at (t.each position known.row known.there) known.since) (set known.row known.there)

abbrev pub Used : Type 0
Used = (s : State) (d : Dates) (pod : Pod) (row : Lacking) → IsLacking s d row → IsSince s d row.node row.index → specs_of (wanted s pod) ≡ row.specs → outcome_on s pod row.node row.budget ≡ Unsat

-- the node of a row that was looked at has no allocation
pub known_lacks : Used → (s : State) (d : Dates) (pod : Pod) (nodes : NodesFields) (position : ℕ) (node : List ℕ) (at : ℕ) → IsKnownAt nodes.rows position node d → TellsOf s d nodes at
    → specs_of (wanted s pod) ≡ nodes.specs → outcome_on s pod node nodes.budget ≡ Unsat
known_lacks law s d pod nodes position node at known t same =
    let told = t.each position known.row known.there in
    subst (λ (n : List ℕ). outcome_on s pod n nodes.budget ≡ Unsat) known.names
    (law s d pod (lacking_by nodes.specs nodes.budget known.row) told.lacking (tells_since s d nodes.specs nodes.budget known.row at told known.since) same)

-- ---- pools of devices

abbrev pub AreAmong : List PoolName → List Offered → ℕ → Type 0
AreAmong pools devices n = (k : ℕ) (o : Offered) → k < n → slice_get devices k ≡ Some o → IsAmong pools (pool_named o.slice)

among_by : (pools : List PoolName) (devices : List Offered) (k n : ℕ) (o item : Offered) → slice_get devices k ≡ Some o → item ≡ get_or devices n item → IsAmong pools (pool_named item.slice) → k ≡ n → IsAmong pools (pool_named o.slice)
among_by pools devices k n o item at is new same =
    let e : o ≡ item = sym (get_or_from_slice_get devices k o item at) ∙ ap (λ (j : ℕ). get_or devices j item) same ∙ sym is in
    subst (λ (x : Offered). IsAmong pools (pool_named x.slice)) (sym e) new

least_by : (k n : ℕ) (b : Bool) → eqb k n ≡ b → k < n + 1 → (k < n) ⊎ (k ≡ n)
least_by k n true e h = inr (eqb-true k n e)
least_by k n false e h = inl (let apart : k ≡ n → ⊥ = λ same. let f = eq-eqb k n same in absurd (cc) in omega (arith, apart, h))

least : (k n : ℕ) → k < n + 1 → (k < n) ⊎ (k ≡ n)
least k n h = least_by k n (eqb k n) refl h

-- the pool of one device more is among them
pub among_more : (before pools : List PoolName) (devices : List Offered) (n : ℕ) (item : Offered) → item ≡ get_or devices n item → ((p : PoolName) → IsAmong before p → IsAmong pools p) → IsAmong pools (pool_named item.slice)
    → AreAmong before devices n → AreAmong pools devices (n + 1)
among_more before pools devices n item is keeps new h k o below at = ⊎_elim (λ (less : k < n). keeps (pool_named o.slice) (h k o less at)) (λ (same : k ≡ n). among_by pools devices k n o item at is new same) (least k n below)

pub among_all : (pools : List PoolName) (devices : List Offered) (n : ℕ) → n ≡ length devices → AreAmong pools devices n → Each (λ o. IsAmong pools (pool_named o.slice)) devices
among_all pools devices n is h k o at = let within = slice_get_within devices k o at in h k o (omega (arith, is, within)) at

last_is : (pools : List PoolName) (p : PoolName) → slice_get (pools ++ p ∷ []) (length pools) ≡ Some p
last_is [] p = refl
last_is (q ∷ pools) p = last_is pools p

pub pushed_there : (pools : List PoolName) (p : PoolName) → IsAmong (pools ++ p ∷ []) p
pushed_there pools p = record { position = length pools; there = last_is pools p }

still : (pools : List PoolName) (p q : PoolName) (i : ℕ) → slice_get pools i ≡ Some q → slice_get (pools ++ p ∷ []) i ≡ Some q
still [] p q i at = absurd (cc)
still (x ∷ pools) p q zero at = at
still (x ∷ pools) p q (suc i) at = still pools p q i at

pub pushed_others : (pools : List PoolName) (p q : PoolName) → IsAmong pools q → IsAmong (pools ++ p ∷ []) q
pushed_others pools p q a = record { position = a.position; there = still pools p q a.position a.there }

-- ---- lists of nodes

pub tells_less : (s : State) (d : Dates) (memo : List NodesFields) (k at : ℕ) → Tells s d memo at → Tells s d (remove memo k) at
tells_less s d memo k at t = record { each = each_less (λ n. TellsOf s d n at) memo k t.each }

pub tells_more : (s : State) (d : Dates) (memo : List NodesFields) (nodes : NodesFields) (at : ℕ) → Tells s d memo at → TellsOf s d nodes at → Tells s d (memo ++ nodes ∷ []) at
tells_more s d memo nodes at t new = record { each = each_end (λ n. TellsOf s d n at) memo nodes t.each new }

-- ---- at the calls

pub each_since : (d : Dates) (index : ℕ) (pools : List PoolName) → list_all (λ p. nat_le (freed_for d p) index) pools ≡ true → Each (λ p. freed_for d p ≤ index) pools
each_since d index pools e = each_by (λ (p : PoolName). freed_for d p ≤ index) (λ (p : PoolName). nat_le (freed_for d p) index) pools (λ p h. leb-true (freed_for d p) index h) e

pub known_tells : (s : State) (d : Dates) (inside nodes : NodesFields) (rows : List (Option LackingNode)) (position : ℕ) (node : List ℕ) (at : ℕ) → inside ≡ nodes → IsKnownAt inside.rows position node d
    → ((row : LackingNode) → slice_get inside.rows position ≡ Some (Some row) → AreWith inside.rows rows (record row { index = at }))
    → TellsOf s d nodes at → TellsOf s d (record inside { rows = rows }) at
known_tells s d inside nodes rows position node at is known set t =
    tells_known s d inside.specs inside.budget inside.rows rows position node at known set (subst (λ (n : NodesFields). TellsOf s d n at) (sym is) t)

pub kept_tells : (s : State) (d : Dates) (inside nodes : NodesFields) (rows : List (Option LackingNode)) (node copy : List ℕ) (devices : List Offered) (pools : List PoolName) (places : Vec Place Global) (at : ℕ) → inside ≡ nodes → copy ≡ node
    → Each (λ o. IsAmong pools (pool_named o.slice)) devices → AreWith inside.rows rows (record { node = copy; index = at; pools = pools; places = places })
    → devices ≡ node_devices s.inventory node → IsLacking s d (record { specs = nodes.specs; budget = nodes.budget; node = node; index = at }) → TellsOf s d nodes at → TellsOf s d (record inside { rows = rows }) at
kept_tells s d inside nodes rows node copy devices pools places at is same each w are lacking t =
    let before : TellsOf s d inside at = subst (λ (n : NodesFields). TellsOf s d n at) (sym is) t in
    let lacks : IsLacking s d (record { specs = inside.specs; budget = inside.budget; node = node; index = at }) = subst (λ (n : NodesFields). IsLacking s d (record { specs = n.specs; budget = n.budget; node = node; index = at })) (sym is) lacking in
    let new : TellsRow s d inside.specs inside.budget (record { node = node; index = at; pools = pools; places = places }) at = tells_new s d inside.specs inside.budget node devices pools places at are each lacks in
    let here : TellsRow s d inside.specs inside.budget (record { node = copy; index = at; pools = pools; places = places }) at = subst (λ (n : List ℕ). TellsRow s d inside.specs inside.budget (record { node = n; index = at; pools = pools; places = places }) at) (sym same) new in
    tells_with s d inside.specs inside.budget inside.rows rows (record { node = copy; index = at; pools = pools; places = places }) at before here w
