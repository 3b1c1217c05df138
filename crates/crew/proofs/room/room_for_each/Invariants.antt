use Rattle.std.proofs.Common.{◌≡◌, ◌≤◌, All, [], length, map, take, vec_len, vec_capacity}
use Rattle.crew.proofs.room.room_for_each.Given as goal

abbrev pub invariant-loop-list : goal.invariant-loop-list
invariant-loop-list g l = All (λ r. r.items ≡ []) l.each.items × (map (λ r. vec_capacity r) l.each.items ≡ map (λ v. length v.items) (take l.list-index l.lists)) × (vec_len l.each ≡ l.list-index) × (length l.lists ≤ vec_capacity l.each)
