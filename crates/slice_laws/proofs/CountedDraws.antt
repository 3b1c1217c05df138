-- What a device draws is read item by item, each from a set that no item before draws on, with limited amounts.
use Rattle.std.proofs.Common.{◌≡◌, ◌∙◌, ℕ, ◌+◌, ◌<◌, ◌≤◌, ℤ, true, ◌||◌, List, [], ◌∷◌, ◌++◌, map, Some, Result, Ok, Err, ap, codes, nat_lt, option_and_then, refl, sym}
use Rattle.std.proofs.Math.Logic.{⊎_elim}
use Rattle.std.proofs.lemmas.Bool.{ltb-true}
use Rattle.std.specs.BTreeMap.{insert_entry}
use Rattle.std.specs.Cmp.Lexicographic.{slice_cmp}
use Rattle.std.specs.Ordering.{nat_cmp}
use Rattle.std.specs.Str.{bytes_eq}
use Rattle.serde_json.specs.Data.{Data, Items, no_items, item, Members, no_members, member}
use Rattle.serde_json.specs.Find.{as_str}
use Rattle.object_fields.specs.Fields.{field_at, field_error, member_of, object_value, some_or, table_at, text_at, unless, ◌>>=◌}
use Rattle.object_fields.specs.NewNames.{is_among}
use Rattle.object_fields.specs.declared.error.FieldError.{FieldError}
use Rattle.object_fields.specs.declared.kind.FieldErrorKind.{FieldErrorKind}
use Rattle.object_fields.specs.declared.kind.FieldErrorKind.TheVariants.{Doubled, Missing, TooMany, WrongType}
use Rattle.object_fields.specs.declared.path.Step.{Step}
use Rattle.object_fields.specs.declared.path.Step.TheVariants as step
use Rattle.api_slice.specs.Amounts.{amount_of}
use Rattle.api_slice.specs.Consumption.{amounts_at, amounts_most, amounts_with, draws_from, draws_on, new_drawn_set}
use Rattle.slice_laws.specs.Counted.{draw_alone, set_drawn_on, text_in}
use Rattle.api_slice.specs.Lists.{count_on, members_length}
use Rattle.api_slice.specs.declared.types.CounterConsumption.{CounterConsumption}
use Rattle.slice_laws.proofs.Counts.{IsCounting, IsMet, IsPast, IsTakenText, either_err, from, has, judged_item}
use Rattle.slice_laws.proofs.CountedSets.{Never, Plain, count_error, counted_or, done, go, item_by, joined, members_counted, never_amount, never_counted, never_done, never_object, never_table, never_text, never_then, never_unless, not_doubled, not_many, passed_on, refused, with_count}
use Rattle.slice_laws.proofs.Read.{Labels}
use Rattle.slice_laws.proofs.Read.{counted_on}
use Rattle.slice_laws.proofs.Read.{along, gave, kept, the_same, was_some}

abbrev pub draw_text : CounterConsumption → List ℕ
draw_text c = c.set

abbrev pub draw_error : List Step → FieldError
draw_error at = field_error at (codes "counterSet") Doubled

abbrev pub made_draw : List ℕ → List (List ℕ × ℤ) → CounterConsumption
made_draw set amounts = record { set = set; amounts = amounts }

abbrev pub draw_step : List Step → List Step → ℕ → List CounterConsumption → Data → Result (CounterConsumption × ℕ) FieldError
draw_step list at met before d =
    new_drawn_set at before d >>= λ set.
    amounts_at list at met d >>= λ amounts.
    with_count (made_draw set amounts.0) amounts.1

pub draws_are : (path : List Step) (place met : ℕ) (before : List CounterConsumption) (ds : Items) → draws_from path place met before ds ≡ from draw_step path place met before ds
draws_are path place met before no_items = refl
draws_are path place met before (item d ds) =
    let at : List Step = path ++ step.Place place ∷ [] in
    let next : CounterConsumption × ℕ → Result (List CounterConsumption) FieldError = λ p. from draw_step path (place + 1) p.1 (before ++ p.0 ∷ []) ds in
    let sets : List ℕ → Result (CounterConsumption × ℕ) FieldError = λ set. amounts_at path at met d >>= λ amounts. with_count (made_draw set amounts.0) amounts.1 in
    go (new_drawn_set at before d) (λ set. amounts_at path at met d >>= λ amounts. draws_from path (place + 1) amounts.1 (before ++ made_draw set amounts.0 ∷ []) ds) (λ set. sets set >>= next)
    (λ set. go (amounts_at path at met d) (λ amounts. draws_from path (place + 1) amounts.1 (before ++ made_draw set amounts.0 ∷ []) ds) (λ amounts. next (made_draw set amounts.0, amounts.1))
    (λ amounts. draws_are path (place + 1) amounts.1 (before ++ made_draw set amounts.0 ∷ []) ds)
    ∙ sym (joined (amounts_at path at met d) (λ amounts. with_count (made_draw set amounts.0) amounts.1) next))
    ∙ sym (joined (new_drawn_set at before d) sets next)

among_draws : (name : List ℕ) (draws : List CounterConsumption) → draws_on name draws ≡ is_among name (map draw_text draws)
among_draws name [] = refl
among_draws name (c ∷ cs) = ap (λ b. bytes_eq c.set name || b) (among_draws name cs)

never_amounts : (kind : FieldErrorKind) → Plain kind → (path : List Step) (amounts : List (List ℕ × ℤ)) (ms : Members) → Never kind (amounts_with path amounts ms)
never_amounts kind p path amounts no_members = never_done kind amounts
never_amounts kind p path amounts (member key d ms) =
    never_then kind (amount_of (path ++ step.Key key ∷ []) d) (λ amount. amounts_with path (insert_entry (slice_cmp nat_cmp) amounts key amount) ms)
    (never_amount kind p (path ++ step.Key key ∷ []) d) (λ amount. never_amounts kind p path (insert_entry (slice_cmp nat_cmp) amounts key amount) ms)

-- ---- the set that an item names

pub said_text : Labels → (at : List Step) (d : Data) (text : List ℕ) → set_drawn_on at d ≡ Ok text → text_in (codes "counterSet") d ≡ Some text
said_text law at d text h =
    let l = gave (object_value at d) (text_at at (codes "counterSet")) text h in
    let f = gave (field_at at (codes "counterSet") l.value) (λ v. some_or (field_error at (codes "counterSet") WrongType) (as_str v)) text l.second in
    let there : member_of (codes "counterSet") l.value ≡ Some f.value = was_some (field_error at (codes "counterSet") Missing) (member_of (codes "counterSet") l.value) f.value f.first in
    let is : as_str f.value ≡ Some text = was_some (field_error at (codes "counterSet") WrongType) (as_str f.value) text f.second in
    along (λ v. text_in (codes "counterSet") v ≡ Some text) l.value d (law.object_ at d l.value l.first) (ap (option_and_then as_str) there ∙ is)

-- ---- an item, step by step

amounts_by : (path at : List Step) (met : ℕ) (d : Data) (ms : Members) (amounts : List (List ℕ × ℤ)) (set : List ℕ) → table_at at (codes "counters") d ≡ Ok ms → amounts_with (at ++ step.Member (codes "counters") ∷ []) [] ms ≡ Ok amounts →
    amounts_at path at met d >>= (λ c. with_count (made_draw set c.0) c.1) ≡ counted_or (count_error path) (nat_lt amounts_most (met + has d)) (made_draw set amounts) (met + has d)
amounts_by path at met d ms amounts set t w =
    ap (λ r. (r >>= λ xs. count_on path amounts_most met xs >>= λ more. amounts_with (at ++ step.Member (codes "counters") ∷ []) [] xs >>= λ cs. with_count cs more) >>= (λ (c : List (List ℕ × ℤ) × ℕ). with_count (made_draw set c.0) c.1)) t
    ∙ passed_on (count_error path) (nat_lt amounts_most (met + members_length ms)) (met + members_length ms) (amounts_with (at ++ step.Member (codes "counters") ∷ []) [] ms) amounts (made_draw set) w
    ∙ ap (λ n. counted_or (count_error path) (nat_lt amounts_most (met + n)) (made_draw set amounts) (met + n)) (members_counted at (codes "counters") d ms t)

draw_taken : (path at : List Step) (met : ℕ) (before : List CounterConsumption) (d : Data) (x : CounterConsumption) → draw_alone at d ≡ Ok x → draw_step path at met before d ≡ judged_item (codes "counterSet") amounts_most draw_text path at met before d x
draw_taken path at met before d x h =
    let l = gave (set_drawn_on at d) (λ set. table_at at (codes "counters") d >>= λ ms. amounts_with (at ++ step.Member (codes "counters") ∷ []) [] ms >>= λ amounts. done (made_draw set amounts)) x h in
    let t = gave (table_at at (codes "counters") d) (λ ms. amounts_with (at ++ step.Member (codes "counters") ∷ []) [] ms >>= λ amounts. done (made_draw l.value amounts)) x l.second in
    let w = gave (amounts_with (at ++ step.Member (codes "counters") ∷ []) [] t.value) (λ amounts. done (made_draw l.value amounts)) x t.second in
    let is : made_draw l.value w.value ≡ x = the_same (made_draw l.value w.value) x w.second in
    let sets : List ℕ → Result (CounterConsumption × ℕ) FieldError = λ set. amounts_at path at met d >>= λ c. with_count (made_draw set c.0) c.1 in
    let count : CounterConsumption → Result (CounterConsumption × ℕ) FieldError = λ y. counted_or (count_error path) (nat_lt amounts_most (met + has d)) y (met + has d) in
    let rest : sets l.value ≡ count (made_draw l.value w.value) = amounts_by path at met d t.value w.value l.value t.first w.first in
    ap (λ r. (r >>= λ n. unless (draw_error at) (draws_on n before) n) >>= sets) l.first
    ∙ item_by (draw_error at) (draws_on l.value before) l.value (made_draw l.value w.value) sets count rest
    ∙ ap (λ b. unless (draw_error at) b (made_draw l.value w.value) >>= count) (among_draws l.value before)
    ∙ ap (λ y. unless (draw_error at) (is_among (draw_text y) (map draw_text before)) y >>= count) is

draw_met : (path at : List Step) (met : ℕ) (before : List CounterConsumption) (d : Data) (p : CounterConsumption × ℕ) → draw_step path at met before d ≡ Ok p → IsMet amounts_most (met + has d) p.1
draw_met path at met before d p h =
    let n = gave (new_drawn_set at before d) (λ set. amounts_at path at met d >>= λ c. with_count (made_draw set c.0) c.1) p h in
    let c = gave (amounts_at path at met d) (λ c. with_count (made_draw n.value c.0) c.1) p n.second in
    let t = gave (table_at at (codes "counters") d) (λ ms. count_on path amounts_most met ms >>= λ more. amounts_with (at ++ step.Member (codes "counters") ∷ []) [] ms >>= λ amounts. with_count amounts more) c.value c.first in
    let m = gave (count_on path amounts_most met t.value) (λ more. amounts_with (at ++ step.Member (codes "counters") ∷ []) [] t.value >>= λ amounts. with_count amounts more) c.value t.second in
    let w = gave (amounts_with (at ++ step.Member (codes "counters") ∷ []) [] t.value) (λ amounts. with_count amounts m.value) c.value m.second in
    let o = counted_on path amounts_most met t.value m.value m.first in
    let met_now : List (List ℕ × ℤ) × ℕ = (w.value, m.value) in
    let last : met_now ≡ c.value = the_same met_now c.value w.second in
    let made_now : CounterConsumption × ℕ = (made_draw n.value c.value.0, c.value.1) in
    let made : made_now ≡ p = the_same made_now p c.second in
    let now : p.1 ≡ met + has d = sym (ap (λ (q : CounterConsumption × ℕ). q.1) made) ∙ sym (ap (λ (q : List (List ℕ × ℤ) × ℕ). q.1) last) ∙ sym o.0 ∙ ap (λ k. met + k) (members_counted at (codes "counters") d t.value t.first) in
    let few : met + has d ≤ amounts_most = along (λ k. k ≤ amounts_most) m.value (met + has d) (sym o.0 ∙ ap (λ k. met + k) (members_counted at (codes "counters") d t.value t.first)) o.1 in
    record { is = now; few = few }

draw_named : Labels → (path at : List Step) (met : ℕ) (before : List CounterConsumption) (d : Data) (p : CounterConsumption × ℕ) → draw_step path at met before d ≡ Ok p → text_in (codes "counterSet") d ≡ Some (draw_text p.0)
draw_named law path at met before d p h =
    let n = gave (new_drawn_set at before d) (λ set. amounts_at path at met d >>= λ c. with_count (made_draw set c.0) c.1) p h in
    let c = gave (amounts_at path at met d) (λ c. with_count (made_draw n.value c.0) c.1) p n.second in
    let made_now : CounterConsumption × ℕ = (made_draw n.value c.value.0, c.value.1) in
    let made : made_now ≡ p = the_same made_now p c.second in
    let o = gave (set_drawn_on at d) (λ name. unless (draw_error at) (draws_on name before) name) n.value n.first in
    let e : o.value ≡ n.value = kept (draw_error at) (draws_on o.value before) o.value n.value o.second in
    said_text law at d o.value o.first ∙ ap Some e ∙ ap (λ (q : CounterConsumption × ℕ). Some (draw_text q.0)) made

never_rest : (path at : List Step) (met : ℕ) (d : Data) (set : List ℕ) → Never Doubled (amounts_at path at met d >>= (λ c. with_count (made_draw set c.0) c.1))
never_rest path at met d set =
    never_then Doubled (amounts_at path at met d) (λ c. with_count (made_draw set c.0) c.1)
    (never_then Doubled (table_at at (codes "counters") d) (λ ms. count_on path amounts_most met ms >>= λ more. amounts_with (at ++ step.Member (codes "counters") ∷ []) [] ms >>= λ amounts. with_count amounts more)
    (never_table Doubled not_doubled at (codes "counters") d)
    (λ ms. never_then Doubled (count_on path amounts_most met ms) (λ more. amounts_with (at ++ step.Member (codes "counters") ∷ []) [] ms >>= λ amounts. with_count amounts more)
    (never_unless Doubled (count_error path) (nat_lt amounts_most (met + members_length ms)) (met + members_length ms) (λ h. cc))
    (λ more. never_then Doubled (amounts_with (at ++ step.Member (codes "counters") ∷ []) [] ms) (λ amounts. with_count amounts more) (never_amounts Doubled not_doubled (at ++ step.Member (codes "counters") ∷ []) [] ms) (λ amounts. never_counted Doubled amounts more))))
    (λ c. never_counted Doubled (made_draw set c.0) c.1)

never_said : (kind : FieldErrorKind) → Plain kind → (at : List Step) (d : Data) → Never kind (set_drawn_on at d)
never_said kind p at d = never_then kind (object_value at d) (text_at at (codes "counterSet")) (never_object kind p at d) (λ v. never_text kind p at (codes "counterSet") v)

draw_doubled : Labels → (path at : List Step) (met : ℕ) (before : List CounterConsumption) (d : Data) (e : FieldError) → draw_step path at met before d ≡ Err e → e.kind ≡ Doubled → IsTakenText (codes "counterSet") at (map draw_text before) d e
draw_doubled law path at met before d e h k =
    ⊎_elim (λ x. ⊎_elim (λ y. absurd (never_said Doubled not_doubled at d e y k))
    (λ y.
    let r = refused (draw_error at) e (draws_on y.0 before) y.0 y.1.1 in
    record { text = y.0; is_text = said_text law at d y.0 y.1.0; stands = sym (among_draws y.0 before) ∙ r.0; is = r.1 })
    (either_err (set_drawn_on at d) (λ name. unless (draw_error at) (draws_on name before) name) e x))
    (λ x. absurd (never_rest path at met d x.0 e x.1.1 k))
    (either_err (new_drawn_set at before d) (λ set. amounts_at path at met d >>= λ c. with_count (made_draw set c.0) c.1) e h)

-- where the amounts of an item are too many
many_amounts : (path at : List Step) (met : ℕ) (d : Data) (e : FieldError) → amounts_at path at met d ≡ Err e → e.kind ≡ TooMany → IsPast amounts_most path (met + has d) e
many_amounts path at met d e h k =
    ⊎_elim (λ x. absurd (never_table TooMany not_many at (codes "counters") d e x k))
    (λ x. ⊎_elim (λ y.
    let r = refused (count_error path) e (nat_lt amounts_most (met + members_length x.0)) (met + members_length x.0) y in
    let l : amounts_most < met + members_length x.0 = ltb-true amounts_most (met + members_length x.0) r.0 in
    let m : amounts_most < met + has d = along (λ n. amounts_most < met + n) (members_length x.0) (has d) (members_counted at (codes "counters") d x.0 x.1.0) l in
    record { many = m; is = r.1 })
    (λ y. absurd (never_then TooMany (amounts_with (at ++ step.Member (codes "counters") ∷ []) [] x.0) (λ amounts. with_count amounts y.0) (never_amounts TooMany not_many (at ++ step.Member (codes "counters") ∷ []) [] x.0) (λ amounts. never_counted TooMany amounts y.0) e y.1.1 k))
    (either_err (count_on path amounts_most met x.0) (λ more. amounts_with (at ++ step.Member (codes "counters") ∷ []) [] x.0 >>= λ amounts. with_count amounts more) e x.1.1))
    (either_err (table_at at (codes "counters") d) (λ ms. count_on path amounts_most met ms >>= λ more. amounts_with (at ++ step.Member (codes "counters") ∷ []) [] ms >>= λ amounts. with_count amounts more) e h)

draw_many : (path at : List Step) (met : ℕ) (before : List CounterConsumption) (d : Data) (e : FieldError) → draw_step path at met before d ≡ Err e → e.kind ≡ TooMany → IsPast amounts_most path (met + has d) e
draw_many path at met before d e h k =
    ⊎_elim (λ x. absurd (never_then TooMany (set_drawn_on at d) (λ name. unless (draw_error at) (draws_on name before) name) (never_said TooMany not_many at d) (λ name. never_unless TooMany (draw_error at) (draws_on name before) name (λ h. cc)) e x k))
    (λ x. ⊎_elim (λ y. many_amounts path at met d e y k) (λ y. absurd (let no_value : ⊥ = never_counted TooMany (made_draw x.0 y.0.0) y.0.1 e y.1.1 k in no_value))
    (either_err (amounts_at path at met d) (λ c. with_count (made_draw x.0 c.0) c.1) e x.1.1))
    (either_err (new_drawn_set at before d) (λ set. amounts_at path at met d >>= λ c. with_count (made_draw set c.0) c.1) e h)

pub draw_reading : Labels → IsCounting (codes "counterSet") amounts_most draw_text draw_alone draw_step
draw_reading law = record { taken = draw_taken; met = draw_met; named = draw_named law; doubled = draw_doubled law; many = draw_many }
