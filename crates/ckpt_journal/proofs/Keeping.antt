-- What a journal keeps from one append to the next.
use Rattle.std.proofs.Common.{◌≡◌, ◌≢◌, ◌⊎◌, inl, inr, ℕ, ◌+◌, ◌-◌, ◌*◌, ◌<◌, ◌≤◌, Bool, true, false, IsTrue, IfSome, List, [], ◌∷◌, ◌++◌, length, get_or, take, drop, Option, Some, None, Result, Ok, Err, refl, sym, ◌∙◌, ap, subst, arith, append_assoc, append-nil, length-append, length-take, length-drop, take-append-drop, if◌then◌else◌}
use Rattle.std.proofs.lemmas.List.{take_at, drop_at, drop_more, get_or_at}
use Rattle.std.specs.Int.{w32, to_be_bytes}
use Rattle.std.specs.Prelude.{Vec}
use Rattle.std.specs.declared.alloc.Global.{Global}
use Rattle.std.specs.List.{AllByRecursion}
use Rattle.std.specs.Option.{option_map}
use Rattle.dra_ports.specs.DiskContent.{Content, Partly, exactly, moved, spliced, synced, written}
use Rattle.dra_ports.specs.DiskImages.{AtEachMoment, Leaves}
use Rattle.ckpt_journal.specs.Format.{Fits, block, blocks}
use Rattle.ckpt_journal.specs.Layout.{is_half, layout_of, other_half, start_of}
use Rattle.ckpt_journal.specs.Plan.{append_steps, move_steps, new_file, new_halves, switch_steps, table_bytes}
use Rattle.ckpt_journal.specs.Planned.{IsPlaced, bytes_in, steps_of, steps_with}
use Rattle.ckpt_journal.specs.Opened.{HasNone, IsOld}
use Rattle.ckpt_journal.specs.Reading.{records}
use Rattle.ckpt_journal.specs.Standing.{EndsAt, Has, HasHalves, HasTable, IsBeforeOrAfter, IsSettled, Keeps, recorded}
use Rattle.ckpt_journal.specs.Steps.{Cut, IsExact, Put, Safe, Step, StepFailed, StoppedIn, all_bytes, all_done, done, step_bytes}
use Rattle.ckpt_journal.specs.Table.{IsTable, compact, row_after, table, tabled}
use Rattle.ckpt_journal.specs.declared.layout.Halves.{Halves}
use Rattle.ckpt_journal.specs.declared.layout.Layout.TheVariants.{Single, Double}
use Rattle.ckpt_journal.specs.declared.plan.Plan.{Plan}
use Rattle.ckpt_journal.specs.declared.record.Record.{Record}
use Rattle.ckpt_journal.specs.declared.record.Row.{Row}
use Rattle.ckpt_journal.proofs.Appends.{Either, append_bytes, append_long, append_safe}
use Rattle.ckpt_journal.proofs.Halved.{first, has_pre}
use Rattle.ckpt_journal.proofs.LaidOut.{Fronted, IsPre, fronted, laid_pre, length-pre, pre_of}
use Rattle.ckpt_journal.proofs.Moves.{Moved, drops, has_single, moved as moved_over, new_has_none, new_is_laid}
use Rattle.ckpt_journal.proofs.Read.{blocks-more}
use Rattle.ckpt_journal.proofs.Steps.{exact_all, exactly_this, safe_both, safe_done, safe_stopped, safe_under}
use Rattle.ckpt_journal.proofs.Switches.{Both, Switched, switched}
use Rattle.ckpt_journal.proofs.Tables.{compact_again, table_more}
use Rattle.ckpt_journal.proofs.Taken.{one_more}

-- ---- tables

pub has_table : (rs : List Record) (rows : List Row) (image : List ℕ) → table rs ≡ rows → Has rs image → HasTable rows image
has_table rs rows image make has = ap tabled has ∙ ap (λ (t : List Row). Ok t) make

either_table : (rs : List Record) (rows : List Row) (item : Record) → table rs ≡ rows → (image : List ℕ) → Either rs item image → IsBeforeOrAfter rows item image
unfolding Either
either_table rs rows item make image (inl has) = inl (has_table rs rows image make has)
either_table rs rows item make image (inr has) = inr (has_table (rs ++ item ∷ []) (row_after rows item) image (table_more rs item ∙ ap (λ (t : List Row). row_after t item) make) has)

pub both_table : (rs cs : List Record) (rows : List Row) → table rs ≡ rows → table cs ≡ rows → (image : List ℕ) → Both rs cs image → HasTable rows image
unfolding Both
both_table rs cs rows make again image (inl has) = has_table rs rows image make has
both_table rs cs rows make again image (inr has) = has_table cs rows image again has

-- ---- what is settled

-- a file whose live half has these records
pub record Live (rs : List Record) (h : Halves) (bytes : List ℕ) : Type 0 where
  pub pre : List ℕ
  pub is_pre : IsPre h pre
  pub gate : ℕ
  pub tail : List ℕ
  pub shut : gate ≢ 90
  pub parts : bytes ≡ pre ++ (blocks rs ++ gate ∷ tail)
  pub long : h.base + h.half + 6 ≤ length (pre ++ (blocks rs ++ gate ∷ tail))
  pub room : length (blocks rs) < h.half
  pub fits : AllByRecursion Fits rs

pub live_has : (rs : List Record) (h : Halves) (bytes : List ℕ) → Live rs h bytes → Has rs bytes
live_has rs h bytes l = ap records l.parts ∙ has_pre h l.pre rs l.gate l.tail l.is_pre l.long l.room l.fits l.shut

recorded_is : (rs : List Record) (c : Content) → Has rs c.bytes → recorded (Some c) ≡ rs
recorded_is rs c is = ap (λ (r : Result (List Record) ℕ). elim r [ Ok rs ↦ rs | Err at ↦ [] ]) is

pub live_from : (rs : List Record) (rows : List Row) (h : Halves) (end : ℕ) (c : Content) → IsSettled rs rows h end c → Live rs h c.bytes
live_from rs rows h end c s =
    let start = start_of h in
    let k = length (blocks rs) in
    let behind = drop start c.bytes in
    let f = fronted h c.bytes s.0 in
    let split : behind ≡ blocks rs ++ get_or c.bytes end 90 ∷ drop (end + 1) c.bytes =
    sym (take-append-drop k behind) ∙ (λ i. s.3 i ++ (drops start k c.bytes ∙ ap (λ (n : ℕ). drop n c.bytes) (sym s.4) ∙ drop_more c.bytes end 90 s.1) i) in
    let whole : c.bytes ≡ take start c.bytes ++ (blocks rs ++ get_or c.bytes end 90 ∷ drop (end + 1) c.bytes) = sym (take-append-drop start c.bytes) ∙ ap (λ (l : List ℕ). take start c.bytes ++ l) split in
    record {
      pre = take start c.bytes;
      is_pre = pre_of h c.bytes s.0;
      gate = get_or c.bytes end 90;
      tail = drop (end + 1) c.bytes;
      shut = s.2;
      parts = whole;
      long = subst (λ (l : List ℕ). h.base + h.half + 6 ≤ length l) whole f.long;
      room = s.5;
      fits = s.6;
    }

settled_in : (rs : List Record) (rows : List Row) (h : Halves) (end : ℕ) (c : Content) → Live rs h c.bytes → end ≡ start_of h + length (blocks rs) → table rs ≡ rows → IsExact c → IsSettled rs rows h end c
settled_in rs rows h end c l place make sure =
    let rest = blocks rs ++ l.gate ∷ l.tail in
    let a = l.pre ++ blocks rs in
    let len : length a ≡ end = omega (arith, length-append l.pre (blocks rs), length-pre h l.pre l.is_pre, place) in
    let split : c.bytes ≡ a ++ l.gate ∷ l.tail = l.parts ∙ sym (append_assoc l.pre (blocks rs) (l.gate ∷ l.tail)) in
    let gate_is : get_or c.bytes end 90 ≡ l.gate = ap (λ (x : List ℕ). get_or x end 90) split ∙ get_or_at a l.gate l.tail 90 end len in (
      ap layout_of l.parts ∙ laid_pre h l.pre rest l.is_pre l.long,
      omega (arith, ap length split, length-append a (l.gate ∷ l.tail), len),
      subst (λ (n : ℕ). n ≢ 90) (sym gate_is) l.shut,
      ap (λ (x : List ℕ). take (length (blocks rs)) (drop (start_of h) x)) l.parts
          ∙ ap (take (length (blocks rs))) (drop_at l.pre rest (start_of h) (length-pre h l.pre l.is_pre))
          ∙ take_at (blocks rs) (l.gate ∷ l.tail) (length (blocks rs)) refl,
      place,
      l.room,
      l.fits,
      make,
      sure,
    )

pub settled : (rs : List Record) (rows : List Row) (h : Halves) (end : ℕ) (c : Content) → Live rs h c.bytes → end ≡ start_of h + length (blocks rs) → table rs ≡ rows → IsExact c
    → IsSettled (recorded (Some c)) rows h end c
settled rs rows h end c l place make sure =
    subst (λ (x : List Record). IsSettled x rows h end c) (sym (recorded_is rs c (live_has rs h c.bytes l))) (settled_in rs rows h end c l place make sure)

-- ---- what it says of the content

exact_leaves : (P : List ℕ → Type 0) (c : Content) → IsExact c → P c.bytes → IsTrue c.honest → Leaves P c.sure
exact_leaves P c sure holds honest = subst (Leaves P) (sym (sure honest)) (λ image is. subst P (sym (exactly_this c.bytes image is)) holds)

keeps_in : (rs : List Record) (rows : List Row) (h : Halves) (end : ℕ) (c : Content) → IsSettled rs rows h end c → Keeps rows c
keeps_in rs rows h end c s =
    let has = has_table rs rows c.bytes s.7 (live_has rs h c.bytes (live_from rs rows h end c s)) in
    record { read = has; images = exact_leaves (HasTable rows) c s.8 has }

pub keeps : (rows : List Row) (h : Halves) (end : ℕ) (x : Option Content) → IfSome x (IsSettled (recorded x) rows h end) → IfSome x (Keeps rows)
keeps rows h end None s = tt
keeps rows h end (Some c) s = keeps_in (recorded (Some c)) rows h end c s

-- the halves that are told of
pub has_halves : (rows : List Row) (h : Halves) (end : ℕ) (x : Option Content) → IfSome x (IsSettled (recorded x) rows h end) → IfSome x (HasHalves h.half)
has_halves rows h end None s = tt
has_halves rows h end (Some c) s = record { halves = h; laid = s.0; size = refl }

pub rest_in : (P : List ℕ → Type 0) (c : Content) → IsExact c → P c.bytes → AtEachMoment P (Some c) (Some c)
rest_in P c sure holds = λ honest. safe_done P [] c sure holds honest

-- nothing was done
pub stays : (rows : List Row) (item : Record) (h : Halves) (end : ℕ) (x : Option Content) → IfSome x (IsSettled (recorded x) rows h end) → AtEachMoment (IsBeforeOrAfter rows item) x x
stays rows item h end None s = tt
stays rows item h end (Some c) s = rest_in (IsBeforeOrAfter rows item) c s.8 (inl (has_table (recorded (Some c)) rows c.bytes s.7 (live_has (recorded (Some c)) h c.bytes (live_from (recorded (Some c)) rows h end c s))))

-- ---- steps

pub done_bytes : (steps : List Step) (c : Content) → (all_done steps c).bytes ≡ all_bytes steps c.bytes
done_bytes [] c = refl
done_bytes (step ∷ steps) c = done_bytes steps (done step c)

pub stopped_none : (steps : List Step) (z : Option Content) → StoppedIn steps None z → z ≡ None
stopped_none [] z stop = absurd stop
stopped_none (step ∷ steps) z (inl (inl (inl same))) = same
stopped_none (step ∷ steps) z (inl (inl (inr part))) = absurd part
stopped_none (step ∷ steps) z (inl (inr whole)) = whole
stopped_none (step ∷ steps) z (inr later) = stopped_none steps z later

both_in : (s t : List Step) (c : Content) → all_done t (all_done s c) ≡ all_done (s ++ t) c
both_in [] t c = refl
both_in (a ∷ s) t c = both_in s t (done a c)

-- steps, and steps after them
pub both_done : (s t : List Step) (x y z : Option Content) → y ≡ option_map (all_done s) x → z ≡ option_map (all_done t) y → z ≡ option_map (all_done (s ++ t)) x
both_done s t None y z first second = second ∙ ap (option_map (all_done t)) first
both_done s t (Some c) y z first second = second ∙ ap (option_map (all_done t)) first ∙ ap (λ (k : Content). Some k) (both_in s t c)

pub stopped_first : (s t : List Step) (x z : Option Content) → StoppedIn s x z → StoppedIn (s ++ t) x z
stopped_first [] t x z stop = absurd stop
stopped_first (a ∷ s) t x z (inl failed) = inl failed
stopped_first (a ∷ s) t x z (inr later) = inr (stopped_first s t (option_map (done a) x) z later)

one_then : (a : Step) (s : List Step) (x : Option Content) → option_map (all_done (a ∷ s)) x ≡ option_map (all_done s) (option_map (done a) x)
one_then a s None = refl
one_then a s (Some c) = refl

pub stopped_later : (s t : List Step) (x y z : Option Content) → y ≡ option_map (all_done s) x → StoppedIn t y z → StoppedIn (s ++ t) x z
stopped_later [] t x y z first stop = subst (λ (o : Option Content). StoppedIn t o z) (first ∙ none_done x) stop
  where
    none_done : (x : Option Content) → option_map (all_done []) x ≡ x
    none_done None = refl
    none_done (Some c) = refl
stopped_later (a ∷ s) t x y z first stop = inr (stopped_later s t (option_map (done a) x) y z (first ∙ one_then a s x) stop)

-- the steps of a plan with a table and without
pub plan_none : (h : Halves) (p : Plan) → p.table ≡ None → append_steps p.gate p.bytes.items ≡ steps_of h p
plan_none h p is = sym (ap (λ (o : Option (Vec ℕ Global)). steps_with h p.gate p.bytes.items (bytes_in o)) is)

pub plan_some : (h : Halves) (p : Plan) (v : Vec ℕ Global) → p.table ≡ Some v → switch_steps h v.items ++ append_steps p.gate p.bytes.items ≡ steps_of h p
plan_some h p v is = sym (ap (λ (o : Option (Vec ℕ Global)). steps_with h p.gate p.bytes.items (bytes_in o)) is)

four_done : (a b c d : Step) (x : Option Content) → option_map (done d) (option_map (done c) (option_map (done b) (option_map (done a) x))) ≡ option_map (all_done (a ∷ b ∷ c ∷ d ∷ [])) x
four_done a b c d None = refl
four_done a b c d (Some k) = refl

pub move_done : (base : ℕ) (halves b4 : List ℕ) (x y z w v : Option Content) → b4 ≡ to_be_bytes w32 base → y ≡ option_map (done (Cut base)) x → z ≡ option_map (done (Put base halves)) y → w ≡ option_map (done (Put 12 b4)) z
    → v ≡ option_map (done (Put 11 (2 ∷ []))) w → v ≡ option_map (all_done (move_steps base halves)) x
move_done base halves b4 x y z w v is e f g h =
    h ∙ ap (option_map (done (Put 11 (2 ∷ [])))) (g ∙ (λ i. option_map (done (Put 12 (is i))) ((f ∙ ap (option_map (done (Put base halves))) e) i)))
    ∙ four_done (Cut base) (Put base halves) (Put 12 (to_be_bytes w32 base)) (Put 11 (2 ∷ [])) x

-- what the steps of a plan leave of bytes
pub record Carried (P : List ℕ → Type 0) (rows : List Row) (h : Halves) (end : ℕ) (steps : List Step) (bytes : List ℕ) : Type 0 where
  pub safe : Safe P steps bytes
  pub rs : List Record
  pub live : Live rs h (all_bytes steps bytes)
  pub place : end ≡ start_of h + length (blocks rs)
  pub make : table rs ≡ rows

-- a record after the records of a live half
added : (rs : List Record) (rows : List Row) (h : Halves) (item : Record) (gate : ℕ) (bytes : List ℕ) → Fits item → Live rs h bytes → gate ≡ start_of h + length (blocks rs) → table rs ≡ rows
    → gate + (length (block item) + 1) < start_of h + h.half → Carried (IsBeforeOrAfter rows item) (row_after rows item) h (gate + (length (block item) + 1)) (append_steps gate (block item ++ 0 ∷ [])) bytes
added rs rows h item gate bytes this l place make enough =
    let a = l.pre ++ blocks rs in
    let whole : bytes ≡ a ++ l.gate ∷ l.tail = l.parts ∙ sym (append_assoc l.pre (blocks rs) (l.gate ∷ l.tail)) in
    let long : h.base + h.half + 6 ≤ length (a ++ l.gate ∷ l.tail) = subst (λ (x : List ℕ). h.base + h.half + 6 ≤ length x) (sym (append_assoc l.pre (blocks rs) (l.gate ∷ l.tail))) l.long in
    let room : length (blocks rs) + 1 + length (block item) < h.half = omega (arith, enough, place) in
    let steps = append_steps gate (block item ++ 0 ∷ []) in
    let rest = drop (gate + 1 + length (block item ++ 0 ∷ [])) (a ++ l.gate ∷ l.tail) in
    let more = rs ++ item ∷ [] in
    let len : length (blocks more) ≡ length (blocks rs) + (1 + length (block item)) = length-more rs item in
    subst (Carried (IsBeforeOrAfter rows item) (row_after rows item) h (gate + (length (block item) + 1)) steps) (sym whole) (record {
      safe = safe_under (Either rs item) (IsBeforeOrAfter rows item) (either_table rs rows item make) steps (a ++ l.gate ∷ l.tail) (append_safe h l.pre l.is_pre rs l.fits item this room l.gate l.shut l.tail long gate place);
      rs = more;
      live = record {
        pre = l.pre;
        is_pre = l.is_pre;
        gate = 0;
        tail = rest;
        shut = omega arith;
        parts = append_bytes h l.pre l.is_pre rs l.fits item this room l.gate l.shut l.tail long gate place;
        long = append_long h l.pre l.is_pre rs l.fits item this room l.gate l.shut l.tail long gate place;
        room = omega (arith, len, room);
        fits = one_more Fits rs item l.fits this;
      };
      place = omega (arith, len, place);
      make = table_more rs item ∙ ap (λ (t : List Row). row_after t item) make;
    })
  where
    length-more : (rs : List Record) (item : Record) → length (blocks (rs ++ item ∷ [])) ≡ length (blocks rs) + (1 + length (block item))
    length-more rs item =
        omega (arith, ap length (sym (append-nil (blocks (rs ++ item ∷ []))) ∙ blocks-more rs item [] ∙ ap (λ (l : List ℕ). blocks rs ++ 90 ∷ l) (append-nil (block item))), length-append (blocks rs) (90 ∷ block item))

length-frame : (item : Record) (bytes : List ℕ) → bytes ≡ block item ++ 0 ∷ [] → length bytes ≡ length (block item) + 1
length-frame item bytes is = omega (arith, ap length is, length-append (block item) (0 ∷ []))

pub carried : (rs : List Record) (rows : List Row) (h new : Halves) (end gate : ℕ) (item : Record) (frame bytes : List ℕ) (o : Option (List ℕ)) → Fits item → IsTable rows → Live rs h bytes → end ≡ start_of h + length (blocks rs) → table rs ≡ rows
    → length (blocks (compact rows)) < h.half → frame ≡ block item ++ 0 ∷ [] → IsPlaced h end rows new gate o → gate + length frame < start_of new + h.half
    → Carried (IsBeforeOrAfter rows item) (row_after rows item) new (gate + length frame) (steps_with h gate frame o) bytes
carried rs rows h new end gate item frame bytes None this is_table l place make fit framed placed enough =
    let len = length-frame item frame framed in
    let at_end : gate ≡ start_of h + length (blocks rs) = placed.1 ∙ place in
    let here = added rs rows h item gate bytes this l at_end make (omega (arith, len, enough, ap start_of placed.0)) in
    subst (λ (n : Halves). Carried (IsBeforeOrAfter rows item) (row_after rows item) n (gate + length frame) (append_steps gate frame) bytes) (sym placed.0)
    (subst (λ (f : List ℕ). Carried (IsBeforeOrAfter rows item) (row_after rows item) h (gate + length f) (append_steps gate f) bytes) (sym framed)
    (subst (λ (n : ℕ). Carried (IsBeforeOrAfter rows item) (row_after rows item) h (gate + n) (append_steps gate (block item ++ 0 ∷ [])) bytes) (sym (length-frame item (block item ++ 0 ∷ []) refl)) here))
carried rs rows h new end gate item frame bytes (Some t) this is_table l place make fit framed placed enough =
    let P = IsBeforeOrAfter rows item in
    let cs = compact rows in
    let again = compact_again rows is_table.0 in
    let s = switched rs cs l.gate l.tail t l.shut l.fits placed.0 is_table.1 h l.pre l.is_pre l.long l.room fit in
    let other = other_half h in
    let frame_is = block item ++ 0 ∷ [] in
    let next : Live cs other (s.pre ++ (blocks cs ++ 0 ∷ s.rest)) = record { pre = s.pre; is_pre = s.is_pre; gate = 0; tail = s.rest; shut = omega arith; parts = refl; long = s.long; room = fit; fits = is_table.1 } in
    let second = added cs rows other item gate (s.pre ++ (blocks cs ++ 0 ∷ s.rest)) this next placed.2 again (omega (arith, length-frame item frame framed, enough, ap start_of placed.1)) in
    let first = safe_under (Both rs cs) P (λ image both. inl (both_table rs cs rows make again image both)) (switch_steps h t) (l.pre ++ (blocks rs ++ l.gate ∷ l.tail)) s.safe in
    let steps = append_steps gate frame_is in
    let all : Carried P (row_after rows item) other (gate + (length (block item) + 1)) (switch_steps h t ++ steps) (l.pre ++ (blocks rs ++ l.gate ∷ l.tail)) = record {
      safe = safe_both P (switch_steps h t) steps (l.pre ++ (blocks rs ++ l.gate ∷ l.tail)) first (subst (Safe P steps) (sym s.left) second.safe);
      rs = second.rs;
      live = subst (λ (b : List ℕ). Live second.rs other (all_bytes steps b)) (sym s.left) second.live;
      place = second.place;
      make = second.make;
    } in
    subst (λ (n : Halves). Carried P (row_after rows item) n (gate + length frame) (switch_steps h t ++ append_steps gate frame) bytes) (sym placed.1)
    (subst (λ (f : List ℕ). Carried P (row_after rows item) other (gate + length f) (switch_steps h t ++ append_steps gate f) bytes) (sym framed)
    (subst (λ (n : ℕ). Carried P (row_after rows item) other (gate + n) (switch_steps h t ++ steps) bytes) (sym (length-frame item frame_is refl))
    (subst (Carried P (row_after rows item) other (gate + (length (block item) + 1)) (switch_steps h t ++ steps)) (sym l.parts) all)))

-- ---- what an append leaves

module _ (P : List ℕ → Type 0) (rows : List Row) (h : Halves) (end : ℕ) (steps : List Step) where
  carry_settles : (c : Content) → IsExact c → Carried P rows h end steps c.bytes → IsSettled (recorded (Some (all_done steps c))) rows h end (all_done steps c)
  carry_settles c sure k = settled k.rs rows h end (all_done steps c) (subst (Live k.rs h) (sym (done_bytes steps c)) k.live) k.place k.make (exact_all P steps c sure)

  pub carry_settled : (x z : Option Content) → IfSome x (λ c. IsExact c × Carried P rows h end steps c.bytes) → z ≡ option_map (all_done steps) x → IfSome z (IsSettled (recorded z) rows h end)
  carry_settled None z k is = subst (λ (o : Option Content). IfSome o (IsSettled (recorded o) rows h end)) (sym is) tt
  carry_settled (Some c) z k is = subst (λ (o : Option Content). IfSome o (IsSettled (recorded o) rows h end)) (sym is) (carry_settles c k.0 k.1)

  pub carry_moments : (x z : Option Content) → IfSome x (λ c. IsExact c × Carried P rows h end steps c.bytes) → z ≡ option_map (all_done steps) x → AtEachMoment P x z
  carry_moments None z k is = subst (AtEachMoment P None) (sym is) tt
  carry_moments (Some c) z k is = subst (AtEachMoment P (Some c)) (sym is) (λ honest. safe_done P steps c k.0 k.1.safe honest)

  pub carry_stopped : (x z : Option Content) → IfSome x (λ c. IsExact c × Carried P rows h end steps c.bytes) → StoppedIn steps x z → AtEachMoment P x z
  carry_stopped None z k stop = subst (AtEachMoment P None) (sym (stopped_none steps z stop)) tt
  carry_stopped (Some c) z k stop = safe_stopped P steps c z k.0 k.1.safe stop

-- the plan of an append over a journal that is settled
pub plan_carried : (rows : List Row) (h new : Halves) (end gate : ℕ) (item : Record) (frame : List ℕ) (o : Option (List ℕ)) (x : Option Content) → IfSome x (IsSettled (recorded x) rows h end) → Fits item → IsTable rows
    → length (blocks (compact rows)) < h.half → frame ≡ block item ++ 0 ∷ [] → IsPlaced h end rows new gate o → gate + length frame < start_of new + h.half
    → IfSome x (λ c. IsExact c × Carried (IsBeforeOrAfter rows item) (row_after rows item) new (gate + length frame) (steps_with h gate frame o) c.bytes)
plan_carried rows h new end gate item frame o None s this is_table fit framed placed enough = tt
plan_carried rows h new end gate item frame o (Some c) s this is_table fit framed placed enough =
    let rs = recorded (Some c) in
    (s.8, carried rs rows h new end gate item frame c.bytes o this is_table (live_from rs rows h end c s) s.4 s.7 fit framed placed enough)

-- ---- a new file

pub formatted : (half : ℕ) (x z : Option Content) → is_half half ≡ true → half ≤ 134217728 → 0 < half → z ≡ option_map (λ c. synced (written 0 (new_file half) c)) x → IfSome z HasNone
formatted half None z allowed most some is = subst (λ (o : Option Content). IfSome o HasNone) (sym is) tt
formatted half (Some c) z allowed most some is =
    let new = synced (written 0 (new_file half) c) in
    let has = new_has_none half (drop (0 + length (new_file half)) c.bytes) allowed most some in
    subst (λ (o : Option Content). IfSome o HasNone) (sym is) (record { read = has; images = exact_leaves (Has []) new (λ honest. if_true c.honest _ _ honest) has })
  where
    if_true : {X : Type 0} (b : Bool) (x y : X) → IsTrue b → (if b then x else y) ≡ x
    if_true true x y is = refl
    if_true false x y is = cc

pub formatted_halves : (half : ℕ) (x z : Option Content) → is_half half ≡ true → half ≤ 134217728 → 0 < half → z ≡ option_map (λ c. synced (written 0 (new_file half) c)) x → IfSome z (HasHalves half)
formatted_halves half None z allowed most some is = subst (λ (o : Option Content). IfSome o (HasHalves half)) (sym is) tt
formatted_halves half (Some c) z allowed most some is =
    subst (λ (o : Option Content). IfSome o (HasHalves half)) (sym is) (record { halves = first 16 half; laid = new_is_laid half (drop (0 + length (new_file half)) c.bytes) allowed most some; size = refl })

-- ---- opening

-- a file of version 2 that was read
pub told_settled : (rs : List Record) (rows : List Row) (h : Halves) (at end : ℕ) (c : Content) → layout_of c.bytes ≡ Ok (Double h) → EndsAt rs at (take h.half (drop (start_of h) c.bytes)) → IsExact c → table rs ≡ rows → end ≡ start_of h + at → at < h.half
    → IsSettled (recorded (Some c)) rows h end c
told_settled rs rows h at end c laid ends sure make place below =
    let part = take h.half (drop (start_of h) c.bytes) in
    let behind = drop (start_of h) c.bytes in
    let gate = get_or part at 90 in
    let f = fronted h c.bytes laid in
    let whole_part : part ≡ blocks rs ++ gate ∷ drop (at + 1) part = sym (take-append-drop at part) ∙ (λ i. ends.2 i ++ drop_more part at 90 ends.0 i) in
    let split : behind ≡ blocks rs ++ gate ∷ (drop (at + 1) part ++ drop h.half behind) = sym (take-append-drop h.half behind) ∙ ap (λ (l : List ℕ). l ++ drop h.half behind) whole_part ∙ append_assoc (blocks rs) (gate ∷ drop (at + 1) part) (drop h.half behind) in
    let whole : c.bytes ≡ take (start_of h) c.bytes ++ (blocks rs ++ gate ∷ (drop (at + 1) part ++ drop h.half behind)) = sym (take-append-drop (start_of h) c.bytes) ∙ ap (λ (l : List ℕ). take (start_of h) c.bytes ++ l) split in
    settled rs rows h end c (record {
      pre = take (start_of h) c.bytes;
      is_pre = pre_of h c.bytes laid;
      gate = gate;
      tail = drop (at + 1) part ++ drop h.half behind;
      shut = ends.1;
      parts = whole;
      long = subst (λ (l : List ℕ). h.base + h.half + 6 ≤ length l) whole f.long;
      room = omega (arith, ends.3, below);
      fits = ends.4;
    }) (omega (arith, place, ends.3)) make sure

-- the records of a file of version 1 that was read
pub old_parts : (rs : List Record) (at : ℕ) (c : Content) → EndsAt rs at (drop 16 c.bytes) → (gate : ℕ) × (tail : List ℕ) × (gate ≢ 90) × (drop 16 c.bytes ≡ blocks rs ++ gate ∷ tail)
old_parts rs at c ends =
    let part = drop 16 c.bytes in
    (get_or part at 90, drop (at + 1) part, ends.1, sym (take-append-drop at part) ∙ (λ i. ends.2 i ++ drop_more part at 90 ends.0 i))

-- moving it over
pub move_carried : (rows : List Row) (base half end : ℕ) (t : List ℕ) (c : Content) → IsOld rows base c → IsTable rows → t ≡ table_bytes rows → (17 ≤ base) × (base ≤ 67108864) → is_half half ≡ true → half ≤ 134217728 → 2 * length t ≤ half
    → end ≡ start_of (first base half) + length (blocks (compact rows)) → Carried (HasTable rows) rows (first base half) end (move_steps base (new_halves half t)) c.bytes
move_carried rows base half end t c old is_table t_is within allowed most fit place =
    let rs = old.rs in
    let cs = compact rows in
    let p = old_parts rs (base - 17) c old.ends in
    let len : length t ≡ length (blocks cs) + 1 = omega (arith, ap length t_is, length-append (blocks cs) (0 ∷ [])) in
    let small : length (blocks cs) < half = omega (arith, len, fit) in
    let m = moved_over rs cs old.ends.4 is_table.1 base half (omega (arith, within.0, old.ends.3)) within.1 p.0 p.2 t t_is allowed small most c.bytes p.1 old.laid p.3 in
    record {
      safe = safe_under (Both rs cs) (HasTable rows) (both_table rs cs rows old.make (compact_again rows is_table.0)) (move_steps base (new_halves half t)) c.bytes m.safe;
      rs = cs;
      live = record { pre = m.pre; is_pre = m.is_pre; gate = 0; tail = m.rest; shut = omega arith; parts = m.left; long = m.long; room = small; fits = is_table.1 };
      place = place;
      make = compact_again rows is_table.0;
    }

pub old_carried : (rows : List Row) (base half end : ℕ) (t : List ℕ) (x : Option Content) → IfSome x (IsOld rows base) → IsTable rows → t ≡ table_bytes rows → (17 ≤ base) × (base ≤ 67108864) → is_half half ≡ true → half ≤ 134217728 → 2 * length t ≤ half
    → end ≡ start_of (first base half) + length (blocks (compact rows)) → IfSome x (λ c. IsExact c × Carried (HasTable rows) rows (first base half) end (move_steps base (new_halves half t)) c.bytes)
old_carried rows base half end t None old is_table t_is within allowed most fit place = tt
old_carried rows base half end t (Some c) old is_table t_is within allowed most fit place = (old.sure, move_carried rows base half end t c old is_table t_is within allowed most fit place)

-- nothing is done to a file that was read
pub old_rest : (rows : List Row) (base : ℕ) (x : Option Content) → IfSome x (IsOld rows base) → base ≤ 67108864 → AtEachMoment (HasTable rows) x x
old_rest rows base None old below = tt
old_rest rows base (Some c) old below =
    let p = old_parts old.rs (base - 17) c old.ends in
    rest_in (HasTable rows) c old.sure (has_table old.rs rows c.bytes old.make (has_single old.rs c.bytes p.0 p.1 old.laid p.3 old.ends.4 p.2 (omega (arith, below, old.ends.3))))
