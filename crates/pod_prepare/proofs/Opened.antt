-- What a kubelet begins with.
use Rattle.std.proofs.Common.{ℕ, ◌≡◌, ◌∙◌, List, [], ◌∷◌, length, refl, sym, ap, subst, IfSome, Option, None, Some, Ok, Err}
use Rattle.std.specs.Prelude.{Result, IfOk, true, is_some}
use Rattle.std.specs.Option.{option_map}
use Rattle.dra_ports.specs.DiskContent.{Content}
use Rattle.ckpt_journal.specs.Layout.{is_half, layout_of}
use Rattle.ckpt_journal.specs.Opened.{HasNone, half_opened}
use Rattle.ckpt_journal.specs.Reading.{laid_out, records}
use Rattle.ckpt_journal.specs.Standing.{HasHalves}
use Rattle.ckpt_journal.specs.Table.{tabled}
use Rattle.ckpt_journal.specs.declared.layout.Layout.{Layout}
use Rattle.ckpt_journal.specs.declared.layout.Layout.TheVariants.{Double}
use Rattle.ckpt_journal.specs.declared.record.Record.{Record}
use Rattle.ckpt_journal.specs.declared.record.Row.{Row}
use Rattle.pod_prepare.specs.Opening.{BeginsWith, IsFormatted, IsFormattedTo, IsFound, IsFoundIn, IsNew, Table, half_size}
use Rattle.pod_prepare.specs.Words.{TellsStill, tells}

pub half_allowed : is_half 4194304 ≡ true
unfolding is_half
half_allowed = refl

-- a disk of length 0 that was formatted
formatted_to : (bytes : List ℕ) (c : Content) (z : Option Content) → 0 ≡ length bytes → IfSome z HasNone → IfSome z (HasHalves half_size) → IsFormattedTo bytes c z
formatted_to [] c None zero none halves = tt
formatted_to [] c (Some d) zero none halves = record { halves = halves; none = none }
formatted_to (b ∷ bytes) c z zero none halves = absurd (cc)

pub formatted_is : (x z : Option Content) → IfSome x (λ c. 0 ≡ length c.bytes) → IfSome z HasNone → IfSome z (HasHalves half_size) → IsFormatted x z
formatted_is None z zero none halves = tt
formatted_is (Some c) z zero none halves = formatted_to c.bytes c z zero none halves

pub tells_mapped : (f : Content → Content) (x y z : Option Content) → y ≡ x → z ≡ option_map f y → TellsStill x z
tells_mapped f None y z same is = ap tells (is ∙ ap (option_map f) same)
tells_mapped f (Some c) y z same is = ap tells (is ∙ ap (option_map f) same)

-- a journal has a layout
laid_by : (bytes : List ℕ) (rows : List Row) (half : ℕ) (l : Result Layout ℕ) → layout_of bytes ≡ l → tabled (laid_out bytes l) ≡ Ok rows → IfOk l (λ layout. half ≡ half_opened half_size rows layout)
    → tabled (records bytes) ≡ Ok rows → IsFound bytes (record { half = half; rows = rows })
laid_by bytes rows half (Ok layout) is made size table = record { layout = layout; laid = is; table = table; half = size }
laid_by bytes rows half (Err at) is made size table = absurd (cc)

pub found_is : (bytes : List ℕ) (rows : List Row) (half : ℕ) → tabled (records bytes) ≡ Ok rows → IfOk (layout_of bytes) (λ layout. half ≡ half_opened half_size rows layout) → IsFound bytes (record { half = half; rows = rows })
unfolding records
found_is bytes rows half table size = laid_by bytes rows half (layout_of bytes) refl table size table

empty_rows : (r : Result (List Record) ℕ) (rows : List Row) → r ≡ Ok [] → tabled r ≡ Ok rows → rows ≡ []
empty_rows (Err at) rows none table = absurd (cc)
empty_rows (Ok []) rows none table = let same : ◌≡◌ {A = List Row} [] rows = cc (table) in sym same
empty_rows (Ok (r ∷ rs)) rows none table = absurd (cc)

new_is : (rows : List Row) (half : ℕ) (d : Content) → IsNew d → tabled (records d.bytes) ≡ Ok rows → IfOk (layout_of d.bytes) (λ layout. half ≡ half_opened half_size rows layout)
    → ◌≡◌ {A = Table} (record { half = half; rows = rows }) (record { half = half_size; rows = [] })
new_is rows half d n table size =
    let empty : ◌≡◌ {A = List Row} rows [] = empty_rows (records d.bytes) rows n.none.read table in
    let same : half ≡ half_size = subst (λ (l : Result Layout ℕ). IfOk l (λ layout. half ≡ half_opened half_size rows layout)) n.halves.laid size ∙ n.halves.size in
    ap (λ (k : ℕ). record { half = k; rows = rows }) same ∙ ap (λ (r : List Row). record { half = half_size; rows = r }) empty

begins_by : (bytes : List ℕ) (c : Content) (z : Option Content) (rows : List Row) (half : ℕ) → bytes ≡ c.bytes → is_some z ≡ true → IsFormattedTo bytes c z → IfSome z (λ d. tabled (records d.bytes) ≡ Ok rows)
    → IfSome z (λ d. IfOk (layout_of d.bytes) (λ layout. half ≡ half_opened half_size rows layout)) → IsFoundIn bytes (record { half = half; rows = rows })
begins_by [] c None rows half is told formatted table size = absurd (cc)
begins_by [] c (Some d) rows half is told formatted table size = new_is rows half d formatted table size
begins_by (b ∷ bytes) c z rows half is told formatted table size =
    let t : tabled (records c.bytes) ≡ Ok rows = subst (λ (o : Option Content). IfSome o (λ d. tabled (records d.bytes) ≡ Ok rows)) formatted table in
    let s = subst (λ (o : Option Content). IfSome o (λ d. IfOk (layout_of d.bytes) (λ layout. half ≡ half_opened half_size rows layout))) formatted size in
    subst (λ (l : List ℕ). IsFound l (record { half = half; rows = rows })) (sym is) (found_is c.bytes rows half t s)

-- what a kubelet has that was opened over a disk, which was formatted if its length was 0
pub begins_with : (x z : Option Content) (rows : List Row) (half : ℕ) → IsFormatted x z → TellsStill x z → IfSome z (λ d. tabled (records d.bytes) ≡ Ok rows)
    → IfSome z (λ d. IfOk (layout_of d.bytes) (λ layout. half ≡ half_opened half_size rows layout)) → BeginsWith x (record { half = half; rows = rows })
begins_with None z rows half formatted told table size = tt
begins_with (Some c) z rows half formatted told table size = begins_by c.bytes c z rows half refl told formatted table size
