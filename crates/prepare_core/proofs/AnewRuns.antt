-- What a preparation that asks the driver makes of a claim, step by step.
use Rattle.std.proofs.Common.{◌≡◌, ◌⊎◌, ⊎_elim, ℕ, Bool, true, false, ◌||◌, ◌&&◌, if◌then◌else◌, IfSome, List, ◌++◌, Option, Some, None, Err, refl, sym, ◌∙◌, ap, subst, is_none, Ok}
use Rattle.std.proofs.lemmas.Bool.{true≢false}
use Rattle.std.specs.Option.{option_map}
use Rattle.ckpt_journal.specs.Plan.{is_full}
use Rattle.ckpt_journal.specs.Table.{row_after}
use Rattle.ckpt_journal.specs.declared.record.Claim.{Claim}
use Rattle.ckpt_journal.specs.declared.record.Record.TheVariants as item
use Rattle.ckpt_journal.specs.declared.record.Row.{Row}
use Rattle.prepare_core.specs.Calls.{call}
use Rattle.prepare_core.specs.Names.{names_of}
use Rattle.prepare_core.specs.Prepare.{ask_run, unless_refused}
use Rattle.prepare_core.specs.Runs.{Follows, IsOfRecord, Run, asking, called, done, is_crowded, recording, refused}
use Rattle.prepare_core.specs.Table.{row_of}
use Rattle.prepare_core.specs.declared.claim.ClaimForNode.{ClaimForNode}
use Rattle.prepare_core.specs.declared.driver.CallKind.TheVariants as kinds
use Rattle.prepare_core.specs.declared.driver.DriverCall.{DriverCall}
use Rattle.prepare_core.specs.declared.error.KubeletError.{KubeletError}
use Rattle.prepare_core.specs.declared.error.KubeletError.TheVariants as errors

-- nothing prevents it
pub no_refusal : (ref : Option KubeletError) → IfSome ref (λ w. ⊥) → ref ≡ None
no_refusal None none = refl
no_refusal (Some w) none = absurd none

abbrev IsFull : KubeletError → Type 0
IsFull errors.Full = Unit {0}
IsFull e = ⊥

not_fault : errors.Full ≡ errors.DiskFault → ⊥
not_fault e = subst IsFull e tt

module _ (half : ℕ) (c : ClaimForNode) (k : Claim) (rows : List Row) where
  abbrev begins : Bool
  begins = (is_none (row_of c.uid rows) && is_crowded rows) || is_full half rows (item.Begun k)

  abbrev begun : List Row
  begun = row_after rows (item.Begun k)

  goes : (a b : Bool) (run : Run (List (List ℕ))) → (a || b) ≡ false → (if a then refused errors.Full rows else (if b then refused errors.Full rows else run)) ≡ run
  goes true b run is = absurd (true≢false is)
  goes false b run is = ap (λ (x : Bool). if x then refused errors.Full rows else run) is

  abbrev rest : Bool → Run (List (List ℕ))
  rest ok = asking (call kinds.Prepare c ok) begun (recording half begun (item.Prepared k) (done (names_of k)))

  run_is : (ref : Option KubeletError) (ok : Bool) → ref ≡ None → begins ≡ false → unless_refused ref rows (ask_run half c k rows ok) ≡ rest ok
  run_is ref ok none room =
      ap (λ (r : Option KubeletError). unless_refused r rows (ask_run half c k rows ok)) none
      ∙ goes (is_none (row_of c.uid rows) && is_crowded rows) (is_full half rows (item.Begun k)) (rest ok) room

  -- the second record doesn't fit
  full_is : is_full half begun (item.Prepared k) ≡ true → rest true ≡ asking (call kinds.Prepare c true) begun (refused errors.Full begun)
  full_is full = ap (λ (b : Bool). asking (call kinds.Prepare c true) begun (if b then refused errors.Full begun else done (names_of k) (row_after begun (item.Prepared k)))) full

  fits_is : is_full half begun (item.Prepared k) ≡ false → rest true ≡ asking (call kinds.Prepare c true) begun (done (names_of k) (row_after begun (item.Prepared k)))
  fits_is fits = ap (λ (b : Bool). asking (call kinds.Prepare c true) begun (if b then refused errors.Full begun else done (names_of k) (row_after begun (item.Prepared k)))) fits

  -- all was done
  pub finish_works : (ref : Option KubeletError) (names : List (List ℕ)) (table now : List Row) (h : ℕ) (p : Claim) (old new : Option (List DriverCall))
      → ref ≡ None → begins ≡ false → table ≡ begun → h ≡ half → p ≡ k → is_full h table (item.Prepared p) ≡ false → now ≡ row_after table (item.Prepared p) → names ≡ names_of p
      → new ≡ option_map (called kinds.Prepare c true) old
      → Follows (λ ok. unless_refused ref rows (ask_run half c k rows ok)) (Ok names) now old new
  finish_works ref names table now h p old new none room t hh pp fits after are calls =
      let is = run_is ref true none room ∙ fits_is (sym (λ i. is_full (hh i) (t i) (item.Prepared (pp i))) ∙ fits) in
      record {
        result = ap (λ (r : Run (List (List ℕ))). r.result) is ∙ sym (λ i. Ok ((are ∙ ap names_of pp) i));
        rows = ap (λ (r : Run (List (List ℕ))). r.rows) is ∙ sym (after ∙ (λ i. row_after (t i) (item.Prepared (pp i))));
        calls = calls ∙ ap (λ (r : Run (List (List ℕ))). option_map (λ before. before ++ r.calls) old) (sym is);
      }

  -- the last record wasn't added
  pub finish_fails : (ref : Option KubeletError) (why : KubeletError) (table now : List Row) (h : ℕ) (p : Claim) (old new : Option (List DriverCall))
      → ref ≡ None → begins ≡ false → table ≡ begun → h ≡ half → p ≡ k → IsOfRecord why → (why ≡ errors.Full → is_full h table (item.Prepared p) ≡ true)
      → (why ≡ errors.DiskFault) ⊎ (now ≡ table) → new ≡ option_map (called kinds.Prepare c true) old
      → Follows (λ ok. unless_refused ref rows (ask_run half c k rows ok)) (Err why) now old new
  finish_fails ref errors.Full table now h p old new none room t hh pp of full kept calls =
      let fullness = sym (λ i. is_full (hh i) (t i) (item.Prepared (pp i))) ∙ full refl in
      let is = run_is ref true none room ∙ full_is fullness in
      let stays = ⊎_elim (λ e. absurd (not_fault e)) (λ e. e) kept in
      record {
        result = ap (λ (r : Run (List (List ℕ))). r.result) is;
        rows = ap (λ (r : Run (List (List ℕ))). r.rows) is ∙ sym (stays ∙ t);
        calls = calls ∙ ap (λ (r : Run (List (List ℕ))). option_map (λ before. before ++ r.calls) old) (sym is);
      }
  finish_fails ref errors.Memory table now h p old new none room t hh pp of full kept calls = tt
  finish_fails ref errors.DiskFault table now h p old new none room t hh pp of full kept calls = tt
  finish_fails ref errors.NotAllocated table now h p old new none room t hh pp of full kept calls = absurd of
  finish_fails ref errors.NotReserved table now h p old new none room t hh pp of full kept calls = absurd of
  finish_fails ref errors.OtherNode table now h p old new none room t hh pp of full kept calls = absurd of
  finish_fails ref errors.DriverFault table now h p old new none room t hh pp of full kept calls = absurd of
  finish_fails ref errors.Closed table now h p old new none room t hh pp of full kept calls = absurd of
  finish_fails ref errors.NotPrepared table now h p old new none room t hh pp of full kept calls = absurd of
  finish_fails ref (errors.NotAJournal at) table now h p old new none room t hh pp of full kept calls = absurd of
