-- Stages and what was sure before them, with one change more.
use Rattle.std.proofs.Common.{◌≡◌, ◌∙◌, ℕ, List, [], ◌∷◌, ◌++◌, get_or, length, take, drop, ◌+◌, ◌-◌, ◌<◌, ◌≤◌, arith, ap, subst, sym, refl, zero, suc, true}
use Rattle.std.proofs.lemmas.List.{take_more}
use Rattle.std.specs.List.{AllByRecursion}
use Rattle.dra_ports.specs.DiskContent.{Sure}
use Rattle.mem_disk.specs.Stages.{IsUnsynced, Stage, after, begun, bytes_from, changed, stage_after, sures_from}
use Rattle.mem_disk.specs.declared.change.Change.{Change}
use Rattle.mem_disk.specs.declared.change.Change.TheVariants.{Write, Cut, Sync}

pub no_change : (s : Stage) → stage_after s [] ≡ s
unfolding stage_after
no_change s = refl

pub no_sures : (s : Stage) → sures_from s [] ≡ []
unfolding sures_from
no_sures s = refl

pub stage_more : (s : Stage) (cs : List Change) (c : Change) → stage_after s (cs ++ c ∷ []) ≡ after c (stage_after s cs)
unfolding stage_after
stage_more s [] c = refl
stage_more s (b ∷ cs) c = stage_more (after b s) cs c

pub sures_more : (s : Stage) (cs : List Change) (c : Change) → sures_from s (cs ++ c ∷ []) ≡ sures_from s cs ++ (stage_after s cs).sure ∷ []
unfolding stage_after sures_from
sures_more s [] c = refl
sures_more s (b ∷ cs) c = ap (λ (l : List Sure). s.sure ∷ l) (sures_more (after b s) cs c)

pub length_sures : (s : Stage) (cs : List Change) → length (sures_from s cs) ≡ length cs
unfolding sures_from
length_sures s [] = omega arith
length_sures s (b ∷ cs) = omega (arith, length_sures (after b s) cs)

-- what is sure at a moment is what the changes before it leave
pub sure_at : (s : Stage) (cs : List Change) (at : ℕ) (d : Sure) → at ≤ length cs → get_or (sures_from s cs ++ (stage_after s cs).sure ∷ []) at d ≡ (stage_after s (take at cs)).sure
unfolding stage_after sures_from
sure_at s [] zero d within = refl
sure_at s [] (suc at) d within = absurd (omega (arith, within))
sure_at s (b ∷ cs) zero d within = refl
sure_at s (b ∷ cs) (suc at) d within = sure_at (after b s) cs at d (omega (arith, within))

-- what a read returns after a change
pub bytes_after : (c : Change) (s : Stage) → (after c s).bytes ≡ changed c s.bytes
bytes_after (Write at from) s = refl
bytes_after (Cut len) s = refl
bytes_after Sync s = refl

-- what a read returns is of the bytes and the changes alone
pub bytes_of : (s : Stage) (cs : List Change) → (stage_after s cs).bytes ≡ bytes_from s.bytes cs
unfolding stage_after bytes_from
bytes_of s [] = refl
bytes_of s (c ∷ cs) = bytes_of (after c s) cs ∙ ap (λ (l : List ℕ). bytes_from l cs) (bytes_after c s)

pub no_bytes : (bytes : List ℕ) → bytes_from bytes [] ≡ bytes
unfolding bytes_from
no_bytes bytes = refl

pub bytes_more : (bytes : List ℕ) (cs : List Change) (c : Change) → bytes_from bytes (cs ++ c ∷ []) ≡ changed c (bytes_from bytes cs)
unfolding bytes_from
bytes_more bytes [] c = refl
bytes_more bytes (b ∷ cs) c = bytes_more (changed b bytes) cs c

-- the stage after changes and others
pub stage_join : (s : Stage) (cs ds : List Change) → stage_after s (cs ++ ds) ≡ stage_after (stage_after s cs) ds
unfolding stage_after
stage_join s [] ds = refl
stage_join s (c ∷ cs) ds = stage_join (after c s) cs ds

-- after a sync the bytes are sure
pub synced_last : (first : List ℕ) (cs : List Change) → stage_after (begun first) (cs ++ Sync ∷ []) ≡ begun (bytes_from first (cs ++ Sync ∷ []))
synced_last first cs = stage_more (begun first) cs Sync ∙ ap begun (bytes_of (begun first) cs ∙ sym (bytes_more first cs Sync))

pub synced_none : (first : List ℕ) → stage_after (begun first) [] ≡ begun (bytes_from first [])
unfolding stage_after bytes_from
synced_none first = refl

-- changes without a sync leave what may be longer so, and one of them makes it so
longer_stays : (s : Stage) (cs : List Change) → AllByRecursion IsUnsynced cs → s.sure.longer ≡ true → (stage_after s cs).sure.longer ≡ true
unfolding stage_after
longer_stays s [] all is = is
longer_stays s (Write at from ∷ cs) all is = longer_stays (after (Write at from) s) cs all.1 refl
longer_stays s (Cut len ∷ cs) all is = longer_stays (after (Cut len) s) cs all.1 refl
longer_stays s (Sync ∷ cs) all is = absurd all.0

pub longer_once : (s : Stage) (cs : List Change) → AllByRecursion IsUnsynced cs → 0 < length cs → (stage_after s cs).sure.longer ≡ true
unfolding stage_after
longer_once s [] all some = absurd (omega (arith, some))
longer_once s (Write at from ∷ cs) all some = longer_stays (after (Write at from) s) cs all.1 refl
longer_once s (Cut len ∷ cs) all some = longer_stays (after (Cut len) s) cs all.1 refl
longer_once s (Sync ∷ cs) all some = absurd all.0

-- one change more of those of a list
pub stage_step : (s : Stage) (cs : List Change) (at : ℕ) (c : Change) → at < length cs → c ≡ get_or cs at c → stage_after s (take (at + 1) cs) ≡ after c (stage_after s (take at cs))
stage_step s cs at c within is = ap (stage_after s) (take_more cs at c within ∙ ap (λ (b : Change). take at cs ++ b ∷ []) (sym is)) ∙ stage_more s (take at cs) c

pub bytes_step : (bytes : List ℕ) (cs : List Change) (at : ℕ) (c : Change) → at < length cs → c ≡ get_or cs at c → bytes_from bytes (take (at + 1) cs) ≡ changed c (bytes_from bytes (take at cs))
bytes_step bytes cs at c within is = ap (bytes_from bytes) (take_more cs at c within ∙ ap (λ (b : Change). take at cs ++ b ∷ []) (sym is)) ∙ bytes_more bytes (take at cs) c

-- the changes through one that is a sync
pub synced_at : (first : List ℕ) (cs : List Change) (count : ℕ) (d : Change) → 0 < count → count ≤ length cs → get_or cs (count - 1) d ≡ Sync → stage_after (begun first) (take count cs) ≡ begun (bytes_from first (take count cs))
synced_at first cs count d some within is =
    let one : count ≡ count - 1 + 1 = omega (arith, some) in
    let through : take count cs ≡ take (count - 1) cs ++ Sync ∷ [] = ap (λ n. take n cs) one ∙ take_more cs (count - 1) d (omega (arith, some, within)) ∙ ap (λ (b : Change). take (count - 1) cs ++ b ∷ []) is in
    subst (λ (l : List Change). stage_after (begun first) l ≡ begun (bytes_from first l)) (sym through) (synced_last first (take (count - 1) cs))

pub synced_at_none : (first : List ℕ) (cs : List Change) (count : ℕ) → count ≡ 0 → stage_after (begun first) (take count cs) ≡ begun (bytes_from first (take count cs))
synced_at_none first cs count is = subst (λ n. stage_after (begun first) (take n cs) ≡ begun (bytes_from first (take n cs))) (sym is) (synced_none first)
