-- Which ends of workers a server's end tells of.
use Rattle.std.proofs.Common.{ℕ, ◌≡◌, ◌∙◌, ◌+◌, ◌≤◌, ◌<◌, ◌⊎◌, inl, inr, List, [], ◌∷◌, refl, sym, ap, subst}
use Rattle.api_server.specs.declared.share_end.ShareEnd.{ShareEnd}
use Rattle.api_server.specs.declared.share_end.ShareEnd.TheVariants as share_end
use Rattle.api_server.specs.Together.{worse, worst}
use Rattle.api_server.specs.declared.serve_end.ServeEnd.{ServeEnd}
use Rattle.api_server.specs.declared.serve_end.ServeEnd.TheVariants as end

-- one of the workers ended so
abbrev pub Has : ShareEnd → List ShareEnd → Type 0
Has e [] = ⊥
Has e (x ∷ xs) = (x ≡ e) ⊎ Has e xs

-- it had all memory, and its door did not fail
abbrev pub Quiet : ShareEnd → Type 0
Quiet share_end.Served = Unit {0}
Quiet share_end.Door = ⊥
Quiet (share_end.Full n) = Unit {0}
Quiet share_end.Memory = ⊥

abbrev pub AllQuiet : List ShareEnd → Type 0
AllQuiet [] = Unit {0}
AllQuiet (x ∷ xs) = Quiet x × AllQuiet xs

abbrev QuietEnd : ServeEnd → Type 0
QuietEnd end.Served = Unit {0}
QuietEnd end.Memory = ⊥
QuietEnd end.Door = ⊥
QuietEnd (end.Limit n) = Unit {0}

quiet_both : (e : ServeEnd) (x : ShareEnd) → QuietEnd (worse e x) → QuietEnd e × Quiet x
quiet_both e share_end.Served q = (q, tt)
quiet_both e share_end.Memory q = absurd q
quiet_both end.Memory share_end.Door q = absurd q
quiet_both end.Served share_end.Door q = absurd q
quiet_both end.Door share_end.Door q = absurd q
quiet_both (end.Limit m) share_end.Door q = absurd q
quiet_both end.Memory (share_end.Full n) q = absurd q
quiet_both end.Door (share_end.Full n) q = absurd q
quiet_both end.Served (share_end.Full n) q = (tt, tt)
quiet_both (end.Limit m) (share_end.Full n) q = (tt, tt)

same_full : (m n : ℕ) → end.Limit m ≡ end.Limit n → share_end.Full m ≡ share_end.Full n
same_full m n is = let same : m ≡ n = cc in ap share_end.Full same

limit_of : (e : ServeEnd) (x : ShareEnd) (n : ℕ) → worse e x ≡ end.Limit n → (e ≡ end.Limit n) ⊎ (x ≡ share_end.Full n)
limit_of e share_end.Served n is = inl is
limit_of e share_end.Memory n is = absurd (cc)
limit_of end.Memory share_end.Door n is = absurd (cc)
limit_of end.Served share_end.Door n is = absurd (cc)
limit_of end.Door share_end.Door n is = absurd (cc)
limit_of (end.Limit m) share_end.Door n is = absurd (cc)
limit_of end.Memory (share_end.Full m) n is = absurd (cc)
limit_of end.Door (share_end.Full m) n is = absurd (cc)
limit_of end.Served (share_end.Full m) n is = inr (same_full m n is)
limit_of (end.Limit k) (share_end.Full m) n is = inr (same_full m n is)

put_first : (e : ServeEnd) (x : ShareEnd) (xs : List ShareEnd) (n : ℕ) → (worse e x ≡ end.Limit n) ⊎ Has (share_end.Full n) xs → (e ≡ end.Limit n) ⊎ Has (share_end.Full n) (x ∷ xs)
put_first e x xs n (inl is) = pick (limit_of e x n is)
  where
    pick : (e ≡ end.Limit n) ⊎ (x ≡ share_end.Full n) → (e ≡ end.Limit n) ⊎ Has (share_end.Full n) (x ∷ xs)
    pick (inl same) = inl same
    pick (inr full) = inr (inl full)
put_first e x xs n (inr has) = inr (inr has)

pub worst_limit : (e : ServeEnd) (xs : List ShareEnd) (n : ℕ) → worst e xs ≡ end.Limit n → ((e ≡ end.Limit n) ⊎ Has (share_end.Full n) xs) × QuietEnd e × AllQuiet xs
worst_limit e [] n is = (inl is, subst QuietEnd (sym is) tt, tt)
worst_limit e (x ∷ xs) n is =
    let r = worst_limit (worse e x) xs n is in
    let q = quiet_both e x r.1 in (put_first e x xs n r.0, q.0, (q.1, r.2))

door_of : (e : ServeEnd) (x : ShareEnd) → worse e x ≡ end.Door → (e ≡ end.Door) ⊎ (x ≡ share_end.Door)
door_of e share_end.Served is = inl is
door_of e share_end.Door is = inr refl
door_of e share_end.Memory is = absurd (cc)
door_of end.Memory (share_end.Full m) is = absurd (cc)
door_of end.Door (share_end.Full m) is = inl refl
door_of end.Served (share_end.Full m) is = absurd (cc)
door_of (end.Limit k) (share_end.Full m) is = absurd (cc)

door_first : (e : ServeEnd) (x : ShareEnd) (xs : List ShareEnd) → (worse e x ≡ end.Door) ⊎ Has share_end.Door xs → (e ≡ end.Door) ⊎ Has share_end.Door (x ∷ xs)
door_first e x xs (inl is) = pick (door_of e x is)
  where
    pick : (e ≡ end.Door) ⊎ (x ≡ share_end.Door) → (e ≡ end.Door) ⊎ Has share_end.Door (x ∷ xs)
    pick (inl same) = inl same
    pick (inr door) = inr (inl door)
door_first e x xs (inr has) = inr (inr has)

pub worst_door : (e : ServeEnd) (xs : List ShareEnd) → worst e xs ≡ end.Door → (e ≡ end.Door) ⊎ Has share_end.Door xs
worst_door e [] is = inl is
worst_door e (x ∷ xs) is = door_first e x xs (worst_door (worse e x) xs is)
