-- A claim that the driver holds keeps its row.
use Rattle.std.proofs.Common.{◌≡◌, ℕ, Bool, true, false, if◌then◌else◌, List, [], ◌∷◌, ◌++◌, refl, sym, ◌∙◌, ap, subst}
use Rattle.std.proofs.lemmas.Bool.{false≢true}
use Rattle.std.proofs.lemmas.Cmp.{nat_list_eq_equiv}
use Rattle.std.specs.Cmp.Lexicographic.{pointwise, same_text}
use Rattle.std.specs.Prelude.{nat_eq}
use Rattle.ckpt_journal.specs.Table.{has_uid, is_of, leave_row, remove_row, row, row_after, set_row}
use Rattle.ckpt_journal.specs.declared.record.Claim.{Claim}
use Rattle.ckpt_journal.specs.declared.record.Record.{Record}
use Rattle.ckpt_journal.specs.declared.record.Record.TheVariants as item
use Rattle.ckpt_journal.specs.declared.record.Row.{Row}
use Rattle.ckpt_journal.specs.declared.record.RowState.TheVariants as state
use Rattle.prepare_core.specs.Calls.{call}
use Rattle.prepare_core.specs.Held.{HasHeld, IsSet, held_by, held_from, is_held}
use Rattle.prepare_core.specs.Runs.{called}
use Rattle.prepare_core.specs.declared.claim.ClaimForNode.{ClaimForNode}
use Rattle.prepare_core.specs.declared.driver.CallKind.{CallKind}
use Rattle.prepare_core.specs.declared.driver.CallKind.TheVariants.{Prepare, Unprepare}
use Rattle.prepare_core.specs.declared.driver.DriverCall.{DriverCall}

-- ---- rows

has_cons : (b x y : Bool) → (x ≡ true → y ≡ true) → (if b then true else x) ≡ true → (if b then true else y) ≡ true
has_cons true x y step has = refl
has_cons false x y step has = step has

-- the new row takes the place of one of its uid
same_place : (uid : List ℕ) (new r : Row) (rows : List Row) → is_of new.claim.uid r ≡ true → has_uid uid (r ∷ rows) ≡ true → has_uid uid (new ∷ rows) ≡ true
same_place uid new r rows is has =
    let same : r.claim.uid ≡ new.claim.uid = same_text r.claim.uid new.claim.uid (sym is) in
    subst (λ (u : List ℕ). (if pointwise nat_eq u uid then true else has_uid uid rows) ≡ true) same has

set_by : (uid : List ℕ) (new r : Row) (rows : List Row) (b : Bool) → is_of new.claim.uid r ≡ b → has_uid uid (r ∷ rows) ≡ true → (has_uid uid rows ≡ true → has_uid uid (set_row new rows) ≡ true)
    → has_uid uid (if b then new ∷ rows else r ∷ set_row new rows) ≡ true
set_by uid new r rows true is has next = same_place uid new r rows is has
set_by uid new r rows false is has next = has_cons (is_of uid r) (has_uid uid rows) (has_uid uid (set_row new rows)) next has

pub set_has : (uid : List ℕ) (new : Row) (rows : List Row) → has_uid uid rows ≡ true → has_uid uid (set_row new rows) ≡ true
set_has uid new [] has = absurd (false≢true has)
set_has uid new (r ∷ rows) has = set_by uid new r rows (is_of new.claim.uid r) refl has (set_has uid new rows)

own_has : (new : Row) (rows : List Row) → has_uid new.claim.uid (new ∷ rows) ≡ true
own_has new rows = ap (λ (b : Bool). if b then true else has_uid new.claim.uid rows) (nat_list_eq_equiv.refl new.claim.uid)

last_true : (b : Bool) → (if b then true else true) ≡ true
last_true true = refl
last_true false = refl

own_by : (new r : Row) (rows : List Row) (b : Bool) → has_uid new.claim.uid (set_row new rows) ≡ true → has_uid new.claim.uid (if b then new ∷ rows else r ∷ set_row new rows) ≡ true
own_by new r rows true next = own_has new rows
own_by new r rows false next = ap (λ (x : Bool). if is_of new.claim.uid r then true else x) next ∙ last_true (is_of new.claim.uid r)

pub set_own : (new : Row) (rows : List Row) → has_uid new.claim.uid (set_row new rows) ≡ true
set_own new [] = own_has new []
set_own new (r ∷ rows) = own_by new r rows (is_of new.claim.uid r) (set_own new rows)

leave_by : (uid gone : List ℕ) (r : Row) (rows : List Row) (b : Bool) → has_uid uid (r ∷ rows) ≡ true → (has_uid uid rows ≡ true → has_uid uid (leave_row gone rows) ≡ true)
    → has_uid uid (if b then row state.Leaving r.claim ∷ rows else r ∷ leave_row gone rows) ≡ true
leave_by uid gone r rows true has next = has
leave_by uid gone r rows false has next = has_cons (is_of uid r) (has_uid uid rows) (has_uid uid (leave_row gone rows)) next has

pub leave_has : (uid gone : List ℕ) (rows : List Row) → has_uid uid rows ≡ true → has_uid uid (leave_row gone rows) ≡ true
leave_has uid gone [] has = absurd (false≢true has)
leave_has uid gone (r ∷ rows) has = leave_by uid gone r rows (is_of gone r) has (leave_has uid gone rows)

-- a row of another uid stays
other_place : (uid gone : List ℕ) (r : Row) (rows : List Row) (b : Bool) → pointwise nat_eq gone uid ≡ false → is_of gone r ≡ true → is_of uid r ≡ b → (if b then true else has_uid uid rows) ≡ true → has_uid uid rows ≡ true
other_place uid gone r rows true differs is has x =
    let same : gone ≡ uid = sym (same_text r.claim.uid gone (sym is)) ∙ same_text r.claim.uid uid (sym has) in
    absurd (false≢true (sym differs ∙ subst (λ (u : List ℕ). pointwise nat_eq gone u ≡ true) same (nat_list_eq_equiv.refl gone)))
other_place uid gone r rows false differs is has x = x

remove_by : (uid gone : List ℕ) (r : Row) (rows : List Row) (b : Bool) → pointwise nat_eq gone uid ≡ false → is_of gone r ≡ b → has_uid uid (r ∷ rows) ≡ true
    → (has_uid uid rows ≡ true → has_uid uid (remove_row gone rows) ≡ true) → has_uid uid (if b then rows else r ∷ remove_row gone rows) ≡ true
remove_by uid gone r rows true differs is has next = other_place uid gone r rows (is_of uid r) differs is refl has
remove_by uid gone r rows false differs is has next = has_cons (is_of uid r) (has_uid uid rows) (has_uid uid (remove_row gone rows)) next has

pub remove_has : (uid gone : List ℕ) (rows : List Row) → pointwise nat_eq gone uid ≡ false → has_uid uid rows ≡ true → has_uid uid (remove_row gone rows) ≡ true
remove_has uid gone [] differs has = absurd (false≢true has)
remove_has uid gone (r ∷ rows) differs has = remove_by uid gone r rows (is_of gone r) differs refl has (remove_has uid gone rows differs)

-- ---- calls

held_more : (uid : List ℕ) (b : Bool) (calls : List DriverCall) (c : DriverCall) → held_from uid b (calls ++ c ∷ []) ≡ held_by uid (held_from uid b calls) c
held_more uid b [] c = refl
held_more uid b (d ∷ calls) c = held_more uid (held_by uid b d) calls c

-- a call that failed changes nothing
pub failed_holds : (calls : List DriverCall) (table : List Row) (kind : CallKind) (c : ClaimForNode) → HasHeld calls table → HasHeld (called kind c false calls) table
failed_holds calls table kind c held = record { has = λ uid is. held.has uid (sym (held_more uid false calls (call kind c false)) ∙ is) }

prepared_by : (uid : List ℕ) (new : Row) (rows : List Row) (b x : Bool) → pointwise nat_eq new.claim.uid uid ≡ b → (x ≡ true → has_uid uid rows ≡ true) → (if b then true else x) ≡ true
    → has_uid uid (set_row new rows) ≡ true
prepared_by uid new rows true x is before held =
    subst (λ (u : List ℕ). has_uid u (set_row new rows) ≡ true) (same_text new.claim.uid uid (sym is)) (set_own new rows)
prepared_by uid new rows false x is before held = set_has uid new rows (before held)

-- a claim that was prepared has the row that was begun
pub prepared_holds : (calls : List DriverCall) (rows : List Row) (c : ClaimForNode) (k : Claim) → k.uid ≡ c.uid → HasHeld calls rows → HasHeld (called Prepare c true calls) (row_after rows (item.Begun k))
prepared_holds calls rows c k same held = record {
  has = λ uid is.
      let now = sym (held_more uid false calls (call Prepare c true)) ∙ is in
      prepared_by uid (row state.Begun k) rows (pointwise nat_eq k.uid uid) (is_held uid calls) refl (held.has uid)
      (subst (λ (u : List ℕ). (if pointwise nat_eq u uid then true else is_held uid calls) ≡ true) (sym same) now);
}

left_by : (uid gone : List ℕ) (rows : List Row) (b x : Bool) → pointwise nat_eq gone uid ≡ b → (x ≡ true → has_uid uid rows ≡ true) → (if b then false else x) ≡ true → (pointwise nat_eq gone uid ≡ false) × (has_uid uid rows ≡ true)
left_by uid gone rows true x is before held = absurd (false≢true held)
left_by uid gone rows false x is before held = (is, before held)

-- the claims that are held after one was taken back
left_are : (calls : List DriverCall) (rows : List Row) (c : ClaimForNode) (uid : List ℕ) → HasHeld calls rows → is_held uid (called Unprepare c true calls) ≡ true
    → (pointwise nat_eq c.uid uid ≡ false) × (has_uid uid rows ≡ true)
left_are calls rows c uid held is =
    left_by uid c.uid rows (pointwise nat_eq c.uid uid) (is_held uid calls) refl (held.has uid) (sym (held_more uid false calls (call Unprepare c true)) ∙ is)

pub left_hold : (calls : List DriverCall) (rows : List Row) (c : ClaimForNode) → HasHeld calls rows → HasHeld (called Unprepare c true calls) rows
left_hold calls rows c held = record { has = λ uid is. (left_are calls rows c uid held is).1 }

pub gone_holds : (calls : List DriverCall) (rows : List Row) (c : ClaimForNode) (gone : List ℕ) → c.uid ≡ gone → HasHeld calls rows → HasHeld (called Unprepare c true calls) (row_after rows (item.Gone gone))
gone_holds calls rows c gone same held = record {
  has = λ uid is.
      let left = left_are calls rows c uid held is in
      remove_has uid gone rows (subst (λ (u : List ℕ). pointwise nat_eq u uid ≡ false) same left.0) left.1;
}

-- ---- records

pub begun_keeps : (calls : List DriverCall) (rows : List Row) (k : Claim) → HasHeld calls rows → HasHeld calls (row_after rows (item.Begun k))
begun_keeps calls rows k held = record { has = λ uid is. set_has uid (row state.Begun k) rows (held.has uid is) }

pub prepared_keeps : (calls : List DriverCall) (rows : List Row) (k : Claim) → HasHeld calls rows → HasHeld calls (row_after rows (item.Prepared k))
prepared_keeps calls rows k held = record { has = λ uid is. set_has uid (row state.Prepared k) rows (held.has uid is) }

pub leaving_keeps : (calls : List DriverCall) (rows : List Row) (gone : List ℕ) → HasHeld calls rows → HasHeld calls (row_after rows (item.Leaving gone))
leaving_keeps calls rows gone held = record { has = λ uid is. leave_has uid gone rows (held.has uid is) }

pub set_keeps : (calls : List DriverCall) (rows : List Row) (set : Record) → IsSet set → HasHeld calls rows → HasHeld calls (row_after rows set)
set_keeps calls rows (item.Begun k) is held = begun_keeps calls rows k held
set_keeps calls rows (item.Prepared k) is held = prepared_keeps calls rows k held
set_keeps calls rows (item.Leaving uid) is held = absurd is
set_keeps calls rows (item.Gone uid) is held = absurd is
