-- Each step keeps the rule.
use Rattle.std.proofs.Common.{true, ◌≡◌, ◌≢◌, ◌⊎◌, ℕ, zero, suc, ◌+◌, ◌%◌, ◌<◌, ◌≤◌, List, [], ◌∷◌, ◌++◌, length, get_or, set, Option, Some, None, sym, refl, ap, ◌∙◌, subst, ⊎_elim, inl, inr, arith, length-append, lt_of_not-le}
use mathlib.Core.Logic.{dite}
use mathlib.Core.Option.{some, none, some-ne-none, some-injective}
use mathlib.Core.Option as maybe
use mathlib.Core.List.{IsPrefix}
use native.Mathlib.Decide.{ℕ_discrete, dec_le}
use lib.ListN.{get_elem?}
use Rattle.atomic_table.specs.Table.{State, Me, step, keeps, takes, gives, rest, opening as opened_with, Final, Seen, Allows, Splits, Joins}
use Rattle.atomic_table.proofs.Lists.{at_set, at_snoc, at_longer, set_here, set_else, set_again, one_turn}
use Rattle.turn_lock.specs.declared.view.View.{View}
use Rattle.turn_lock.specs.declared.view.Stage.{Stage}
use Rattle.turn_lock.specs.declared.view.Stage.TheVariants.{Idle, Waiting, InTurn, Holding, Returned}
use Rattle.turn_lock.specs.Places.{times, new_places, Grown, OwnsAll}
use Rattle.atomic_table.specs.Seated.{TableId}
use Rattle.turn_lock.specs.Known.{Known, Opened, began, left}
use Rattle.turn_lock.specs.Stages.{ticketed, in_turn, ticket, turn_of, rests, with_stage, known_of, carried}
use Rattle.turn_lock.specs.Rule.{total, first_view, Stands, Fits, InOrder, AtHome, IsOut}
use Rattle.turn_lock.specs.Steps.{after_turn, took, looked, took_out, put_in, gave_up_turn, lessened_view, new_view, joined_view, spent_view, met_view, met}
use Rattle.turn_lock.proofs.Views.{total_snoc, longer_cases, prefix_shorter, total_set, total_at, total_two, total_one, total_le, EachView, all_set, times_append, no_new, new_here, new_elsewhere, set_at, prefix_self, prefix_grown}

not_both : (n : ℕ) → n ≡ 1 → n ≡ 0 → ⊥
not_both n a b = absurd (omega arith)

module _ {E : Type 0} where
  more_given : (g s p : ℕ) (b : List E) (st : Stage E) → Stands g s p b st → Stands (g + 1) s p b st
  more_given g s p b Idle k = tt
  more_given g s p b (Waiting t) k = let x = k.1 in (k.0, omega arith)
  more_given g s p b (InTurn t) k = let x = k.1 in (k.0, omega arith, k.2)
  more_given g s p b (Holding t h) k = let x = k.1 in (k.0, omega arith, k.2, k.3)
  more_given g s p b (Returned t old h) k = let x = k.1 in (k.0, omega arith, k.2, k.3, k.4)

  ranged : (g s p : ℕ) (b : List E) (st : Stage E) → Stands g s p b st → ticketed st ≡ 1 → (s ≤ ticket st) × (ticket st < g)
  ranged g s p b Idle k e = absurd (omega arith)
  ranged g s p b (Waiting t) k e = k
  ranged g s p b (InTurn t) k e = let x = k.0 in (omega arith, k.1)
  ranged g s p b (Holding t h) k e = let x = k.0 in (omega arith, k.1)
  ranged g s p b (Returned t old h) k e = let x = k.0 in (omega arith, k.1)

  turn_ticket : (g s p : ℕ) (b : List E) (st : Stage E) → Stands g s p b st → in_turn st ≡ 1 → (ticket st ≡ s) × (ticketed st ≡ 1)
  turn_ticket g s p b Idle k e = absurd (omega arith)
  turn_ticket g s p b (Waiting t) k e = absurd (omega arith)
  turn_ticket g s p b (InTurn t) k e = (k.0, refl)
  turn_ticket g s p b (Holding t h) k e = (k.0, refl)
  turn_ticket g s p b (Returned t old h) k e = (k.0, refl)

  -- if it isn't in turn, it fits any history, and one ticket further if its own isn't the one served
  others_wait : (g s p p' : ℕ) (b b' : List E) (st : Stage E) → Stands g s p b st → (in_turn st ≡ 1 → ⊥) → Stands g s p' b' st
  others_wait g s p p' b b' Idle k n = tt
  others_wait g s p p' b b' (Waiting t) k n = k
  others_wait g s p p' b b' (InTurn t) k n = absurd (n refl)
  others_wait g s p p' b b' (Holding t h) k n = absurd (n refl)
  others_wait g s p p' b b' (Returned t old h) k n = absurd (n refl)

  others_next : (g s p p' : ℕ) (b b' : List E) (st : Stage E) → Stands g s p b st → (ticketed st ≡ 1 → ticket st ≢ s) → Stands g (s + 1) p' b' st
  others_next g s p p' b b' Idle k n = tt
  others_next g s p p' b b' (Waiting t) k n = let x = k.0 in let y : t ≢ s = n refl in (omega arith, k.1)
  others_next g s p p' b b' (InTurn t) k n = absurd (n refl k.0)
  others_next g s p p' b b' (Holding t h) k n = absurd (n refl k.0)
  others_next g s p p' b b' (Returned t old h) k n = absurd (n refl k.0)

  no_turn : (st : Stage E) → ticketed st ≡ 0 → in_turn st ≡ 0
  no_turn Idle n = refl
  no_turn (Waiting t) n = refl
  no_turn (InTurn t) n = absurd (omega arith)
  no_turn (Holding t h) n = absurd (omega arith)
  no_turn (Returned t old h) n = absurd (omega arith)

  some_turn : (st : Stage E) → (in_turn st ≡ 1 → ⊥) → in_turn st ≡ 0
  some_turn Idle n = refl
  some_turn (Waiting t) n = refl
  some_turn (InTurn t) n = absurd (n refl)
  some_turn (Holding t h) n = absurd (n refl)
  some_turn (Returned t old h) n = absurd (n refl)

  abbrev Apart : List (View E) → Type 0
  Apart l = (j k : ℕ) (v w : View E) → get_elem? l j ≡ some v → get_elem? l k ≡ some w → j ≢ k → ticketed v.stage ≡ 1 → ticketed w.stage ≡ 1 → ticket v.stage ≢ ticket w.stage

  apart_set : (l : List (View E)) (i : ℕ) (w : View E) → Apart l → ((k : ℕ) (u : View E) → k ≢ i → get_elem? l k ≡ some u → ticketed w.stage ≡ 1 → ticketed u.stage ≡ 1 → ticket w.stage ≢ ticket u.stage) → Apart (set l i w)
  apart_set l i w old fresh j k u v e e' n a b = ⊎_elim
      (λ (x : (j ≡ i) × (w ≡ u)). ⊎_elim
      (λ (y : (k ≡ i) × (w ≡ v)). absurd (n (x.0 ∙ sym y.0)))
      (λ (y : (k ≢ i) × (get_elem? l k ≡ some v)). λ q. fresh k v y.0 y.1 (ap (λ (z : View E). ticketed z.stage) x.1 ∙ a) b (ap (λ (z : View E). ticket z.stage) x.1 ∙ q))
      (at_set l i k w v e'))
      (λ (x : (j ≢ i) × (get_elem? l j ≡ some u)). ⊎_elim
      (λ (y : (k ≡ i) × (w ≡ v)). λ q. fresh j u x.0 x.1 (ap (λ (z : View E). ticketed z.stage) y.1 ∙ b) a (ap (λ (z : View E). ticket z.stage) y.1 ∙ sym q))
      (λ (y : (k ≢ i) × (get_elem? l k ≡ some v)). old j k u v x.1 y.1 n a b)
      (at_set l i k w v e'))
      (at_set l i j w u e)

  apart_snoc : (l : List (View E)) (w : View E) → Apart l → ticketed w.stage ≡ 0 → Apart (l ++ w ∷ [])
  apart_snoc l w old out j k u v e e' n a b = ⊎_elim
      (λ (x : get_elem? l j ≡ some u). ⊎_elim
      (λ (y : get_elem? l k ≡ some v). old j k u v x y n a b)
      (λ (y : w ≡ v). absurd (not_both (ticketed v.stage) b (sym (ap (λ (z : View E). ticketed z.stage) y) ∙ out)))
      (at_snoc l w v k e'))
      (λ (x : w ≡ u). absurd (not_both (ticketed u.stage) a (sym (ap (λ (z : View E). ticketed z.stage) x) ∙ out)))
      (at_snoc l w u j e)

  -- if nobody is in turn after the step and this view was not before it, nobody was
  rest_back : (l : List (View E)) (i : ℕ) (v w : View E) → get_elem? l i ≡ some v → in_turn v.stage ≡ 0 → EachView (λ j u. in_turn u.stage ≡ 0) (set l i w) → EachView (λ j u. in_turn u.stage ≡ 0) l
  rest_back l i v w at out h j u e = dite (ℕ_discrete j i)
      (λ is. ap (λ (z : View E). in_turn z.stage) (some-injective u v (sym e ∙ ap (get_elem? l) is ∙ at)) ∙ out)
      (λ ne. h j u (set_else l i j w ne ∙ e))

  total_same : (f : View E → ℕ) (l : List (View E)) (i : ℕ) (v w : View E) → get_elem? l i ≡ some v → f w ≡ f v → total f (set l i w) ≡ total f l
  total_same f l i v w at is = let h = total_set f l i v w at in omega arith

abbrev value_or : {T : Type 0} → T → Option T → T
value_or d None = d
value_or d (Some x) = x

abbrev carried_or : {T : Type 0} → T → List (ℕ × Option T) → T
carried_or d [] = d
carried_or d (p ∷ ps) = value_or d p.1

grown_length : {E : Type 0} (old now : List E) → Grown old now → (length now ≡ length old) ⊎ (length now ≡ length old + 1)
grown_length old now (inl e) = inl (ap length e)
grown_length old now (inr e) = inr (ap length e.1 ∙ omega (arith, length-append old (e.0 ∷ [])))

-- how often p is among the new indices
fresh_times : (a b p : ℕ) → (b ≡ a) ⊎ (b ≡ a + 1) → (a ≤ b) × (p ≤ a → times p (new_places a b) ≡ 0) × (a < p → p ≤ b → times p (new_places a b) ≡ 1) × (b < p → times p (new_places a b) ≡ 0)
fresh_times a b p (inl e) = (omega arith, (λ _. no_new a b p e), (λ x y. absurd (omega arith)), (λ _. no_new a b p e))
fresh_times a b p (inr e) = (omega arith, (λ x. new_elsewhere a b p e (λ q. absurd (omega arith))), (λ x y. new_here a b p e (omega arith)), (λ x. new_elsewhere a b p e (λ q. absurd (omega arith))))

same_some : {T : Type 0} (x y : T) → Some x ≡ Some y → x ≡ y
same_some x y e = cc

abbrev M : ℕ
M = 18446744073709551616

module _ {T E : Type 0} (history : T → List E) (number : T → ℕ) (opening : List E) (passes fixed : ℕ) where
  abbrev St : Type 0
  St = State (Option T) (View E)

  abbrev Rule : St → Type 0
  Rule s = InOrder history number opening passes fixed s

  bounded : (s : St) (r : Rule s) → r.given ≤ r.served + 65
  bounded s r = let le = total_le (λ (v : View E). ticketed v.stage) (λ (v : View E). v.share) s.views (λ j v e. (r.each j v e).alive) in let a = r.count in let b = r.shares in let c = r.few in omega arith

  -- the others of one that is in turn are not
  alone : (s : St) (r : Rule s) (id : ℕ) (v : View E) → get_elem? s.views id ≡ some v → in_turn v.stage ≡ 1 → (j : ℕ) (u : View E) → j ≢ id → get_elem? s.views j ≡ some u → ticketed u.stage ≡ 1 → ticket u.stage ≢ r.served
  alone s r id v at mine j u n e one is = let m = turn_ticket r.given r.served r.published r.base v.stage (r.each id v at).stands mine in
      r.apart j id u v e at n one m.1 (is ∙ sym m.0)

  out_set : (l : List (View E)) (i : ℕ) (v w : View E) → get_elem? l i ≡ some v → ((t : ℕ) (h : List E) → v.stage ≢ Holding t h) → IsOut l → IsOut (set l i w)
  out_set l i v w at n o = dite (ℕ_discrete o.0 i)
      (λ is. absurd (n o.2 o.3 (ap (λ (z : View E). z.stage) (some-injective v o.1 (sym at ∙ ap (get_elem? l) (sym is) ∙ o.4)) ∙ o.5)))
      (λ ne. (o.0, o.1, o.2, o.3, set_else l i o.0 w ne ∙ o.4, o.5))

  kept_out : (l : List (View E)) (i : ℕ) (v w : View E) → get_elem? l i ≡ some v → w.stage ≡ v.stage → IsOut l → IsOut (set l i w)
  kept_out l i v w at same o = dite (ℕ_discrete o.0 i)
      (λ is. (i, w, o.2, o.3, set_at l i v w at, same ∙ ap (λ (z : View E). z.stage) (some-injective v o.1 (sym at ∙ ap (get_elem? l) (sym is) ∙ o.4)) ∙ o.5))
      (λ ne. (o.0, o.1, o.2, o.3, set_else l i o.0 w ne ∙ o.4, o.5))

  -- a step that changes this view's stage, and no history
  staged : (s : St) (r : Rule s) (id : ℕ) (v : View E) (st : Stage E) (given : ℕ) (words : List ℕ) (homes : List (maybe.Option (Option T)))
      → get_elem? s.views id ≡ some v
      → words ≡ (given % M) ∷ (r.served % M) ∷ []
      → given + ticketed v.stage ≡ r.given + ticketed st
      → Stands given r.served r.published r.base st
      → ticketed st ≤ v.share
      → ((j : ℕ) (u : View E) → Stands r.given r.served r.published r.base u.stage → Stands given r.served r.published r.base u.stage)
      → ((j : ℕ) (u : View E) → j ≢ id → get_elem? s.views j ≡ some u → ticketed st ≡ 1 → ticketed u.stage ≡ 1 → ticket st ≢ ticket u.stage)
      → (AtHome history number fixed r.base homes ⊎ IsOut (set s.views id (with_stage v st)))
      → (EachView (λ j u. in_turn u.stage ≡ 0) (set s.views id (with_stage v st)) → r.published ≡ length r.base)
      → Rule record { words = words; homes = homes; views = set s.views id (with_stage v st) }
  staged s r id v st given words homes at ws counts stands alive others fresh home resting =
      let w : View E = with_stage v st in
      let was = r.each id v at in
      let same : (p : ℕ) → total (λ (u : View E). times p u.own) (set s.views id w) ≡ total (λ (u : View E). times p u.own) s.views = λ p. total_same (λ (u : View E). times p u.own) s.views id v w at refl in
      record {
        given = given;
        served = r.served;
        published = r.published;
        base = r.base;
        words = ws;
        few = r.few;
        count = (let t = total_set (λ (u : View E). ticketed u.stage) s.views id v w at in let c = r.count in omega arith);
        shares = total_same (λ (u : View E). u.share) s.views id v w at refl ∙ r.shares;
        each = all_set (λ j u. Fits given r.served r.published r.base fixed u) s.views id w
            (record { stands = stands; alive = alive; begins = was.begins; begins_too = was.begins_too; same = was.same; spent = was.spent })
            (λ j u n e. let f = r.each j u e in record { stands = others j u f.stands; alive = f.alive; begins = f.begins; begins_too = f.begins_too; same = f.same; spent = f.spent });
        apart = apart_set s.views id w r.apart fresh;
        home = home;
        resting = resting;
        opened = r.opened;
        owned = λ p a b. same p ∙ r.owned p a b;
        before = λ p a. same p ∙ r.before p a;
        after = λ p a. same p ∙ r.after p a;
      }

  pub take_keeps : (slots id : ℕ) (v : View E) (c : List (ℕ × Option T)) → v.stage ≡ Idle → 0 < v.share
      → Allows Rule slots id (v, c) 0 (λ n. (n + 1) % M) (took (step slots 0 1 0 none) (v, c))
  take_keeps slots id v c idle alive s r _ at _ =
      let g : ℕ = r.given in
      let none_yet : ticketed v.stage ≡ 0 = ap ticketed idle in (
        with_stage v (Waiting g),
        keeps,
        tt,
        staged s r id v (Waiting g) (g + 1) _ s.homes at
            (ap (λ (ws : List ℕ). set ws 0 ((get_or ws 0 0 + 1) % M)) r.words ∙ ap (λ (k : ℕ). k ∷ (r.served % M) ∷ []) (omega arith))
            (omega arith)
            (let k = r.count in (omega arith, omega arith))
            alive
            (λ j u. more_given g r.served r.published r.base u.stage)
            (λ j u n e _ one q. let f = (ranged g r.served r.published r.base u.stage (r.each j u e).stands one).1 in absurd (omega arith))
            (⊎_elim (λ x. inl x) (λ o. inr (out_set s.views id v (with_stage v (Waiting g)) at (λ t h q. absurd (cc)) o)) r.home)
            (λ h. r.resting (rest_back s.views id v (with_stage v (Waiting g)) at (ap in_turn idle) h)),
        (g, ap (λ (ws : List ℕ). get_or ws 0 0) r.words, refl),
      )

  -- loads don't change the words
  loaded : (s : St) (r : Rule s) → set s.words 1 (get_or s.words 1 0) ≡ (r.given % M) ∷ (r.served % M) ∷ []
  loaded s r = ap (λ (ws : List ℕ). set ws 1 (get_or ws 1 0)) r.words

  is_served : (s : St) (r : Rule s) (t : ℕ) → r.served ≤ t → t < r.given → get_or s.words 1 0 ≡ t % M → t ≡ r.served
  is_served s r t lo hi e = let b = bounded s r in sym (one_turn r.served t M lo (omega arith) (sym (ap (λ (ws : List ℕ). get_or ws 1 0) r.words) ∙ e))

  -- nobody was in turn, where this one's ticket is served and it isn't yet in turn
  none_in_turn : (s : St) (r : Rule s) (id : ℕ) (v : View E) → get_elem? s.views id ≡ some v → ticketed v.stage ≡ 1 → ticket v.stage ≡ r.served → in_turn v.stage ≡ 0 → EachView (λ j u. in_turn u.stage ≡ 0) s.views
  none_in_turn s r id v at one is out j u e = dite (ℕ_discrete j id)
      (λ same. ap (λ (z : View E). in_turn z.stage) (some-injective u v (sym e ∙ ap (get_elem? s.views) same ∙ at)) ∙ out)
      (λ ne. some_turn u.stage (λ q. let m = turn_ticket r.given r.served r.published r.base u.stage (r.each j u e).stands q in r.apart j id u v e at ne m.1 one (m.0 ∙ sym is)))

  pub look_keeps : (slots id : ℕ) (v : View E) (c : List (ℕ × Option T)) (t : ℕ) → v.stage ≡ Waiting t
      → Allows Rule slots id (v, c) 1 (λ n. n) (looked (step slots 1 0 0 none) (v, c))
  look_keeps slots id v c t is s r _ at _ =
      let f = r.each id v at in
      let k : (r.served ≤ t) × (t < r.given) = subst (Stands r.given r.served r.published r.base) is f.stands in
      let one : ticketed v.stage ≡ 1 = ap ticketed is in
      let tick : ticket v.stage ≡ t = ap ticket is in
      dite (ℕ_discrete (get_or s.words 1 0) (t % M))
      (λ hit.
      let mine : t ≡ r.served = is_served s r t k.0 k.1 hit in
      let w : View E = with_stage v (InTurn t) in
      let free : r.published ≡ length r.base = r.resting (none_in_turn s r id v at one (tick ∙ mine) (ap in_turn is)) in (
        w,
        keeps,
        tt,
        staged s r id v (InTurn t) r.given _ s.homes at (loaded s r) (omega arith) (mine, k.1, free) (let a = f.alive in omega arith) (λ j u x. x)
            (λ j u n e _ two q. r.apart id j v u at e (λ z. n (sym z)) one two (tick ∙ q))
            (⊎_elim (λ x. inl x) (λ o. inr (out_set s.views id v w at (λ t' h q. absurd (cc)) o)) r.home)
            (λ _. free),
        λ t' is'. ((λ _. let e : t ≡ t' = cc in ap (λ (z : ℕ). (with_stage v (InTurn z), c)) e), (λ ne. absurd (ne (let e : t ≡ t' = cc in hit ∙ ap (λ (z : ℕ). z % M) e)))),
      ))
      (λ miss. (
        v,
        keeps,
        tt,
        subst Rule (λ i. record { words = (r.words ∙ sym (loaded s r)) i; homes = s.homes; views = sym (set_again s.views id v at) i }) r,
        λ t' is'. ((λ hit. absurd (miss (let e : t' ≡ t = cc in hit ∙ ap (λ (z : ℕ). z % M) e))), (λ _. refl)),
      ))

  pub out_keeps : (slots id : ℕ) (v : View E) (c : List (ℕ × Option T)) (t : ℕ) → v.stage ≡ InTurn t → slots ≡ 1
      → Allows Rule slots id (v, c) 1 (λ n. n) (took_out history number (step slots 1 0 0 none) (v, c))
  out_keeps slots id v c t is deep s r wide at _ =
      let f = r.each id v at in
      let k : (t ≡ r.served) × (t < r.given) × (r.published ≡ length r.base) = subst (Stands r.given r.served r.published r.base) is f.stands in
      let one : ticketed v.stage ≡ 1 = ap ticketed is in
      let tick : ticket v.stage ≡ t = ap ticket is in
      let room : 0 < length s.homes = omega arith in
      let has : 0 < v.share = (let a = f.alive in omega arith) in
      ⊎_elim
      (λ (h : AtHome history number fixed r.base s.homes).
      let x : T = h.0 in
      let w : View E = with_stage v (Holding t (history x)) in (
        w,
        takes 0 (Some x),
        h.1,
        staged s r id v (Holding t (history x)) r.given _ (set s.homes 0 none) at (loaded s r) (omega arith) (k.0, k.1, k.2, h.2) (let a = f.alive in omega arith) (λ j u x. x)
            (λ j u n e _ two q. r.apart id j v u at e (λ z. n (sym z)) one two (tick ∙ q))
            (inr (id, w, t, history x, set_at s.views id v w at, refl))
            (λ _. k.2),
        λ t' is'. (x, (let e : t ≡ t' = cc in ap (λ (z : ℕ). (with_stage v (Holding z (history x)), (0, Some x) ∷ c)) e), subst (IsPrefix v.front) (sym h.2) f.begins, h.3 ∙ sym (f.same has)),
      ))
      (λ (o : IsOut s.views). absurd (dite (ℕ_discrete o.0 id)
      (λ same. let e : v.stage ≡ Holding o.2 o.3 = ap (λ (z : View E). z.stage) (some-injective v o.1 (sym at ∙ ap (get_elem? s.views) (sym same) ∙ o.4)) ∙ o.5 in cc)
      (λ ne. alone s r id v at (ap in_turn is) o.0 o.1 ne o.4 (ap ticketed o.5) (turn_ticket r.given r.served r.published r.base o.1.stage (r.each o.0 o.1 o.4).stands (ap in_turn o.5)).0)))
      r.home

  pub in_keeps : (slots id : ℕ) (v : View E) (t : ℕ) (old : List E) (x : T) → v.stage ≡ Holding t old → slots ≡ 1 → Grown old (history x) → number x ≡ v.number
      → Allows Rule slots id (v, (0, Some x) ∷ []) 1 (λ n. n) (put_in history (step slots 1 0 0 none) (v, (0, Some x) ∷ []))
  in_keeps slots id v t old x is deep grown same s r wide at _ =
      let f = r.each id v at in
      let k : (t ≡ r.served) × (t < r.given) × (r.published ≡ length r.base) × (old ≡ r.base) = subst (Stands r.given r.served r.published r.base) is f.stands in
      let one : ticketed v.stage ≡ 1 = ap ticketed is in
      let tick : ticket v.stage ≡ t = ap ticket is in
      let room : 0 < length s.homes = omega arith in
      let has : 0 < v.share = (let a = f.alive in omega arith) in
      let st : Stage E = Returned t old (history x) in
      let w : View E = with_stage v st in
      let base : List E = history x in
      let more : Grown r.base base = subst (λ (l : List E). Grown l base) k.3 grown in
      let count : (p : ℕ) → total (λ (u : View E). times p u.own) (set s.views id w) ≡ total (λ (u : View E). times p u.own) s.views = λ p. total_same (λ (u : View E). times p u.own) s.views id v w at refl in
      let busy : (EachView (λ j u. in_turn u.stage ≡ 0) (set s.views id w)) → ⊥ = λ h. not_both (in_turn w.stage) refl (h id w (set_at s.views id v w at)) in (
        w,
        gives,
        tt,
        record {
          given = r.given;
          served = r.served;
          published = r.published;
          base = base;
          words = loaded s r;
          few = r.few;
          count = (let c = total_set (λ (u : View E). ticketed u.stage) s.views id v w at in let d = r.count in omega arith);
          shares = total_same (λ (u : View E). u.share) s.views id v w at refl ∙ r.shares;
          each = all_set (λ j u. Fits r.given r.served r.published base fixed u) s.views id w
              (record { stands = (k.0, k.1, k.2 ∙ ap length (sym k.3), refl, grown); alive = (let a = f.alive in omega arith); begins = prefix_grown v.front r.base base f.begins more; begins_too = prefix_grown v.beside r.base base f.begins_too more; same = f.same; spent = f.spent })
              (λ j u n e. let g = r.each j u e in record {
                stands = others_wait r.given r.served r.published r.published r.base base u.stage g.stands
                    (λ q. let m = turn_ticket r.given r.served r.published r.base u.stage g.stands q in alone s r id v at (ap in_turn is) j u n e m.1 m.0);
                alive = g.alive;
                begins = prefix_grown u.front r.base base g.begins more;
                begins_too = prefix_grown u.beside r.base base g.begins_too more;
                same = g.same;
                spent = g.spent;
              });
          apart = apart_set s.views id w r.apart (λ j u n e _ two q. r.apart id j v u at e (λ z. n (sym z)) one two (tick ∙ q));
          home = inl (x, set_here s.homes 0 (some (Some x)) room, refl, same ∙ f.same has);
          resting = λ h. absurd (busy h);
          opened = r.opened;
          owned = λ p a b. count p ∙ r.owned p a b;
          before = λ p a. count p ∙ r.before p a;
          after = λ p a. count p ∙ r.after p a;
        },
        λ t' old' x' is' c'.
            let a : t ≡ t' = cc in
            let b : old ≡ old' = cc in
            let d : x ≡ x' = ap (carried_or x) c' in
            λ i. (with_stage v (Returned (a i) (b i) (history (d i))), []),
      )

  pub leave_keeps : (slots id : ℕ) (v : View E) (c : List (ℕ × Option T)) (t : ℕ) (old now : List E) → v.stage ≡ Returned t old now
      → Allows Rule slots id (v, c) 1 (λ n. (n + 1) % M) (gave_up_turn (step slots 1 1 0 none) (v, c))
  leave_keeps slots id v c t old now is s r _ at _ =
      let f = r.each id v at in
      let k : (t ≡ r.served) × (t < r.given) × (r.published ≡ length old) × (now ≡ r.base) × Grown old now = subst (Stands r.given r.served r.published r.base) is f.stands in
      let one : ticketed v.stage ≡ 1 = ap ticketed is in
      let tick : ticket v.stage ≡ t = ap ticket is in
      let has : 0 < v.share = (let a = f.alive in omega arith) in
      let w : View E = after_turn v old now in
      let size : length r.base ≡ length now = ap length (sym k.3) in
      let fresh = λ (p : ℕ). fresh_times (length old) (length now) p (grown_length old now k.4) in
      let longer : length old ≤ length now = (fresh 0).0 in
      let pub_is : r.published ≡ length old = k.2 in
      let counts : (p : ℕ) → total (λ (u : View E). times p u.own) (set s.views id w) ≡ total (λ (u : View E). times p u.own) s.views + times p (new_places (length old) (length now)) = λ p.
      (let a = total_set (λ (u : View E). times p u.own) s.views id v w at in let b = times_append p v.own (new_places (length old) (length now)) in omega arith) in (
        w,
        keeps,
        tt,
        record {
          given = r.given;
          served = r.served + 1;
          published = length r.base;
          base = r.base;
          words = ap (λ (ws : List ℕ). set ws 1 ((get_or ws 1 0 + 1) % M)) r.words ∙ ap (λ (n : ℕ). (r.given % M) ∷ n ∷ []) (omega arith);
          few = r.few;
          count = (let a = total_set (λ (u : View E). ticketed u.stage) s.views id v w at in let b = r.count in omega arith);
          shares = total_same (λ (u : View E). u.share) s.views id v w at refl ∙ r.shares;
          each = all_set (λ j u. Fits r.given (r.served + 1) (length r.base) r.base fixed u) s.views id w
              (record { stands = tt; alive = omega arith; begins = subst (λ l. IsPrefix l r.base) (sym k.3) (prefix_self r.base); begins_too = f.begins_too; same = f.same; spent = λ z. absurd (omega arith) })
              (λ j u n e. let g = r.each j u e in record {
                stands = others_next r.given r.served r.published (length r.base) r.base r.base u.stage g.stands (λ two. alone s r id v at (ap in_turn is) j u n e two);
                alive = g.alive;
                begins = g.begins;
                begins_too = g.begins_too;
                same = g.same;
                spent = g.spent;
              });
          apart = apart_set s.views id w r.apart (λ j u n e none_left. absurd (omega arith));
          home = ⊎_elim (λ x. inl x) (λ o. inr (out_set s.views id v w at (λ t' h q. absurd (cc)) o)) r.home;
          resting = λ h. refl;
          opened = (let a = r.opened in omega arith);
          owned = λ p a b. dite (dec_le p (length old))
              (λ le. let x = counts p in let y = r.owned p a (omega arith) in let z = (fresh p).1 le in omega arith)
              (λ gt. let gt' : length old < p = lt_of_not-le gt in let x = counts p in let y = r.after p (omega arith) in let z = (fresh p).2 gt' (omega arith) in omega arith);
          before = λ p a. (let o = r.opened in let x = counts p in let y = r.before p a in let z = (fresh p).1 (omega arith) in omega arith);
          after = λ p a. (let b : length now < p = omega arith in let x = counts p in let y = r.after p (omega arith) in let z = (fresh p).3 b in omega arith);
        },
        λ t' old' now' is'.
            let b : old ≡ old' = cc in
            let d : now ≡ now' = cc in
            λ i. (after_turn v (b i) (d i), c),
      )

  -- at the end, the seat that has every share, and no turn, knows the state that is home
  pub closes : (s : St) (r : Rule s) (id : ℕ) (v : View E) → get_elem? s.views id ≡ some v → v.stage ≡ Idle → v.share ≡ passes → 0 < v.share
      → (x : T) × (get_elem? s.homes 0 ≡ some (some (Some x))) × IsPrefix v.front (history x) × (number x ≡ fixed) × OwnsAll opening (history x) v.own
  closes s r id v at idle all has =
      let f = r.each id v at in
      let poor : (j : ℕ) (u : View E) → j ≢ id → get_elem? s.views j ≡ some u → u.share ≡ 0 = λ j u n e. (let two = total_two (λ (z : View E). z.share) s.views id j v u at e n in let a = r.shares in omega arith) in
      let out : (j : ℕ) (u : View E) → j ≢ id → get_elem? s.views j ≡ some u → ticketed u.stage ≡ 0 = λ j u n e. (let a = (r.each j u e).alive in let b = poor j u n e in omega arith) in
      let ended : r.published ≡ length r.base = r.resting (λ j u e. dite (ℕ_discrete j id)
      (λ same. ap (λ (z : View E). in_turn z.stage) (some-injective u v (sym e ∙ ap (get_elem? s.views) same ∙ at)) ∙ ap in_turn idle)
      (λ ne. no_turn u.stage (out j u ne e))) in
      let owns : (p : ℕ) → total (λ (u : View E). times p u.own) s.views ≡ times p v.own = λ p. total_one (λ (u : View E). times p u.own) s.views id v at (λ j u n e. ap (times p) ((r.each j u e).spent (poor j u n e))) in
      ⊎_elim
      (λ (h : AtHome history number fixed r.base s.homes). let size : length r.base ≡ length (history h.0) = ap length (sym h.2) in (
        h.0,
        h.1,
        subst (IsPrefix v.front) (sym h.2) f.begins,
        h.3,
        record {
          each = λ p a b. sym (owns p) ∙ r.owned p a (omega arith);
          none_before = λ p a. sym (owns p) ∙ r.before p a;
          none_after = λ p a. sym (owns p) ∙ r.after p (omega arith);
        },
      ))
      (λ (o : IsOut s.views). absurd (dite (ℕ_discrete o.0 id)
      (λ same. let e : v.stage ≡ Holding o.2 o.3 = ap (λ (z : View E). z.stage) (some-injective v o.1 (sym at ∙ ap (get_elem? s.views) (sym same) ∙ o.4)) ∙ o.5 in cc)
      (λ ne. not_both (ticketed o.1.stage) (ap ticketed o.5) (out o.0 o.1 ne o.4))))
      r.home

  pub in_keeps_at : (slots id : ℕ) (m : Me (Option T) (View E)) (v : View E) (t : ℕ) (old : List E) (x : T) → m ≡ (v, (0, Some x) ∷ []) → v.stage ≡ Holding t old → slots ≡ 1 → Grown old (history x) → number x ≡ v.number
      → Allows Rule slots id m 1 (λ n. n) (put_in history (step slots 1 0 0 none) m)
  in_keeps_at slots id m v t old x e is deep grown same = subst (λ (k : Me (Option T) (View E)). Allows Rule slots id k 1 (λ n. n) (put_in history (step slots 1 0 0 none) k)) (sym e) (in_keeps slots id v t old x is deep grown same)

  pub split_keeps : (id : ℕ) (v : View E) → v.stage ≡ Idle → 1 < v.share → Splits Rule id v (lessened_view v) (new_view v)
  split_keeps id v idle two s r at =
      let l : View E = lessened_view v in
      let n : View E = new_view v in
      let f = r.each id v at in
      let none_yet : ticketed v.stage ≡ 0 = ap ticketed idle in
      let sums = λ (g : View E → ℕ). total_snoc g (set s.views id l) n in
      let same : (p : ℕ) → total (λ (u : View E). times p u.own) (set s.views id l ++ n ∷ []) ≡ total (λ (u : View E). times p u.own) s.views = λ p. (let a = sums (λ (u : View E). times p u.own) in let b = total_same (λ (u : View E). times p u.own) s.views id v l at refl in omega arith) in
      record {
        given = r.given;
        served = r.served;
        published = r.published;
        base = r.base;
        words = r.words;
        few = r.few;
        count = (let a = sums (λ (u : View E). ticketed u.stage) in let b = total_same (λ (u : View E). ticketed u.stage) s.views id v l at refl in let c = r.count in omega arith);
        shares = (let a = sums (λ (u : View E). u.share) in let b = total_set (λ (u : View E). u.share) s.views id v l at in let c = r.shares in omega arith);
        each = λ j u e. ⊎_elim
            (λ x. all_set (λ j u. Fits r.given r.served r.published r.base fixed u) s.views id l (record { stands = f.stands; alive = (omega arith); begins = f.begins; begins_too = f.begins_too; same = λ _. f.same (omega arith); spent = λ z. absurd (omega arith) }) (λ j u n e. r.each j u e) j u x)
            (λ (x : n ≡ u). subst (λ (z : View E). Fits r.given r.served r.published r.base fixed z) x record { stands = tt; alive = omega arith; begins = f.begins; begins_too = f.begins_too; same = λ _. f.same (omega arith); spent = λ z. refl })
            (at_snoc (set s.views id l) n u j e);
        apart = apart_snoc (set s.views id l) n (apart_set s.views id l r.apart (λ k u d e a. absurd (omega arith))) refl;
        home = ⊎_elim (λ x. inl x) (λ o. inr (let q = out_set s.views id v l at (λ t h z. absurd (cc)) o in (q.0, q.1, q.2, q.3, at_longer (set s.views id l) (n ∷ []) q.0 q.1 q.4, q.5))) r.home;
        resting = λ h. r.resting (rest_back s.views id v l at (ap in_turn idle) (λ j u e. h j u (at_longer (set s.views id l) (n ∷ []) j u e)));
        opened = r.opened;
        owned = λ p a b. same p ∙ r.owned p a b;
        before = λ p a. same p ∙ r.before p a;
        after = λ p a. same p ∙ r.after p a;
      }

  pub join_keeps : (id : ℕ) (v : View E) (other : ℕ) (w : View E) → v.stage ≡ Idle → w.stage ≡ Idle → 0 < v.share → Joins Rule id v other w (joined_view v w) spent_view
  join_keeps id v other w idle idle' has s r at ne at' =
      let b : View E = joined_view v w in
      let vs : List (View E) = set s.views id b in
      let was : get_elem? s.views other ≡ some w = sym (set_else s.views id other b ne) ∙ at' in
      let f = r.each id v at in
      let g = r.each other w was in
      let out : ticketed v.stage ≡ 0 = ap ticketed idle in
      let out' : ticketed w.stage ≡ 0 = ap ticketed idle' in
      let sum : (h : View E → ℕ) → h spent_view ≡ 0 → h b ≡ h v + h w → total h (set vs other spent_view) ≡ total h s.views = λ h z y. (let x = total_set h s.views id v b at in let x' = total_set h vs other w spent_view at' in omega arith) in
      let same : (p : ℕ) → total (λ (u : View E). times p u.own) (set vs other spent_view) ≡ total (λ (u : View E). times p u.own) s.views = λ p. sum (λ (u : View E). times p u.own) refl (times_append p v.own w.own) in
      let fronts : IsPrefix b.front r.base × IsPrefix b.beside r.base = longer_cases v.front w.front (λ x y. IsPrefix x r.base × IsPrefix y r.base) (λ _. (g.begins, f.begins)) (λ _. (f.begins, g.begins)) in
      record {
        given = r.given;
        served = r.served;
        published = r.published;
        base = r.base;
        words = r.words;
        few = r.few;
        count = r.count ∙ ap (λ (n : ℕ). r.served + n) (sym (sum (λ (u : View E). ticketed u.stage) refl (omega arith)));
        shares = sum (λ (u : View E). u.share) refl refl ∙ r.shares;
        each = all_set (λ j u. Fits r.given r.served r.published r.base fixed u) vs other spent_view
            record { stands = tt; alive = omega arith; begins = (r.base, refl); begins_too = (r.base, refl); same = λ z. absurd (omega arith); spent = λ _. refl }
            (λ j u _ e. all_set (λ j u. Fits r.given r.served r.published r.base fixed u) s.views id b
            (record { stands = f.stands; alive = omega arith; begins = fronts.0; begins_too = fronts.1; same = λ _. f.same has; spent = λ z. absurd (omega arith) })
            (λ k z _ e'. r.each k z e') j u e);
        apart = apart_set vs other spent_view (apart_set s.views id b r.apart (λ k u d e a. absurd (omega arith))) (λ k u d e a. absurd (omega arith));
        home = ⊎_elim (λ x. inl x) (λ o. inr (out_set vs other w spent_view at' (λ t h z. absurd (cc)) (out_set s.views id v b at (λ t h z. absurd (cc)) o))) r.home;
        resting = λ h. r.resting (rest_back s.views id v b at (ap in_turn idle) (rest_back vs other w spent_view at' (ap in_turn idle') h));
        opened = r.opened;
        owned = λ p x y. same p ∙ r.owned p x y;
        before = λ p x. same p ∙ r.before p x;
        after = λ p x. same p ∙ r.after p x;
      }

  pub meet_keeps : (slots id : ℕ) (v : View E) (c : List (ℕ × Option T)) → Allows Rule slots id (v, c) 1 (λ n. n) (met (step slots 1 0 0 none) (v, c))
  meet_keeps slots id v c s r _ at _ =
      let w : View E = met_view v in
      let f = r.each id v at in
      let same : (p : ℕ) → total (λ (u : View E). times p u.own) (set s.views id w) ≡ total (λ (u : View E). times p u.own) s.views = λ p. total_same (λ (u : View E). times p u.own) s.views id v w at refl in (
        w,
        keeps,
        tt,
        record {
          given = r.given;
          served = r.served;
          published = r.published;
          base = r.base;
          words = loaded s r;
          few = r.few;
          count = r.count ∙ ap (λ (n : ℕ). r.served + n) (sym (total_same (λ (u : View E). ticketed u.stage) s.views id v w at refl));
          shares = total_same (λ (u : View E). u.share) s.views id v w at refl ∙ r.shares;
          each = all_set (λ j u. Fits r.given r.served r.published r.base fixed u) s.views id w
              (record { stands = f.stands; alive = f.alive; begins = f.begins; begins_too = (r.base, refl); same = f.same; spent = f.spent })
              (λ j u n e. r.each j u e);
          apart = apart_set s.views id w r.apart (λ k u d e a b. r.apart id k v u at e (λ z. d (sym z)) a b);
          home = ⊎_elim (λ x. inl x) (λ o. inr (kept_out s.views id v w at refl o)) r.home;
          resting = λ h. r.resting (λ j u e. dite (ℕ_discrete j id)
              (λ is. ap (λ (z : View E). in_turn z.stage) (some-injective u v (sym e ∙ ap (get_elem? s.views) is ∙ at)) ∙ h id w (set_at s.views id v w at))
              (λ ne. h j u (set_else s.views id j w ne ∙ e)));
          opened = r.opened;
          owned = λ p a b. same p ∙ r.owned p a b;
          before = λ p a. same p ∙ r.before p a;
          after = λ p a. same p ∙ r.after p a;
        },
        (refl, (λ le. prefix_shorter v.beside v.front r.base f.begins_too f.begins le), (let a = total_at (λ (u : View E). u.share) s.views id v at in let b = r.shares in let d = r.few in omega arith)),
      )

  -- the table when it is made
  one_view : (F : ℕ → View E → Type 0) (w : View E) → F 0 w → EachView F (w ∷ [])
  one_view F w mine zero u e = subst (F 0) (some-injective w u e) mine
  one_view F w mine (suc j) u e = absurd (some-ne-none u (sym e))

  pub starts : (x : T) → history x ≡ opening → number x ≡ fixed → passes ≤ 65 → Rule (opened_with (0 ∷ 0 ∷ []) (Some x ∷ []) (first_view opening passes fixed))
  starts x h n few = let w : View E = first_view opening passes fixed in
      record {
        given = 0;
        served = 0;
        published = length opening;
        base = opening;
        words = refl;
        few = few;
        count = refl;
        shares = omega arith;
        each = one_view (λ j u. Fits 0 0 (length opening) opening fixed u) w record { stands = tt; alive = omega arith; begins = prefix_self opening; begins_too = (opening, refl); same = λ _. refl; spent = λ _. refl };
        apart = λ j k u v e e' d a b. absurd (let c : ticketed u.stage ≡ 0 = one_view (λ j z. ticketed z.stage ≡ 0) w refl j u e in omega arith);
        home = inl (x, refl, h, n);
        resting = λ _. refl;
        opened = omega arith;
        owned = λ p a b. absurd (omega arith);
        before = λ p a. refl;
        after = λ p a. refl;
      }

  -- what the last state shows about the slot
  pub ended : (id : ℕ) (v : View E) (words : List ℕ) (xs : List (Option T)) → Final (Seen Rule id v) words xs → v.stage ≡ Idle → v.share ≡ passes → 0 < v.share
      → (x : T) × (get_elem? xs 0 ≡ some (Some x)) × IsPrefix v.front (history x) × (number x ≡ fixed) × OwnsAll opening (history x) v.own
  ended id v words xs f idle all has = let k = closes f.0 f.1.0 id v f.1.1 idle all has in (k.0, f.4 0 (Some k.0) k.1, k.2, k.3, k.4)

  pub ended_with : (id : ℕ) (v : View E) (words : List ℕ) (xs : List (Option T)) → Final (Seen Rule id v) words xs → v.stage ≡ Idle → v.share ≡ passes → 0 < v.share
      → (z : T) (y : Option T) (w : Known E) (o : Opened E) → get_elem? xs 0 ≡ some y → y ≡ Some z → v.front ≡ w.front → v.own ≡ w.own → opening ≡ o.opening → fixed ≡ o.number
      → IsPrefix w.front (history z) × (number z ≡ o.number) × OwnsAll o.opening (history z) w.own
  ended_with id v words xs f idle all has z y w o got is front own at n =
      let k = ended id v words xs f idle all has in
      let one : k.0 ≡ z = same_some k.0 z (some-injective _ _ (sym k.1 ∙ got) ∙ is) in (
        subst (λ (a : T). IsPrefix w.front (history a)) one (subst (λ (a : List E). IsPrefix a (history k.0)) front k.2),
        ap number (sym one) ∙ k.3 ∙ n,
        subst (λ (a : T). OwnsAll o.opening (history a) w.own) one (subst (λ (a : List ℕ). OwnsAll o.opening (history k.0) a) own (subst (λ (a : List E). OwnsAll a (history k.0) v.own) at k.4)),
      )

-- after the three steps of `leave`
pub turn_over : {T E : Type 0} (history : T → List E) (m a b c : Me (Option T) (View E)) (t : ℕ) (old : List E) (x : T) → m.0.stage ≡ Holding t old → a ≡ (m.0, (0, Some x) ∷ [])
    → ((t : ℕ) (old : List E) (x : T) → a.0.stage ≡ Holding t old → a.1 ≡ (0, Some x) ∷ [] → b ≡ (with_stage a.0 (Returned t old (history x)), []))
    → ((t : ℕ) (old now : List E) → b.0.stage ≡ Returned t old now → c ≡ (after_turn b.0 old now, b.1))
    → c ≡ (after_turn m.0 old (history x), [])
turn_over {T} {E} history m a b c t old x is e f g =
    let e2 = f t old x (ap (λ (z : Me (Option T) (View E)). z.0.stage) e ∙ is) (ap (λ (z : Me (Option T) (View E)). z.1) e) in
    g t old (history x) (ap (λ (z : Me (Option T) (View E)). z.0.stage) e2)
    ∙ ap (λ (z : Me (Option T) (View E)). (after_turn z.0 old (history x), z.1)) e2
    ∙ ap (λ (z : Me (Option T) (View E)). (after_turn (with_stage z.0 (Returned t old (history x))) old (history x), [])) e

-- the slot that a turn carries
pub carried_slot : {T E : Type 0} (c : List (ℕ × Option T)) (y : Option T) (st : Stage E) (t : ℕ) (old : List E) → c ≡ carried st → st ≡ Holding t old → (0, y) ∷ rest c ≡ (0, y) ∷ []
carried_slot c y st t old e is = ap (λ z. (0, y) ∷ rest z) (e ∙ ap carried is)

pub held_history : {E : Type 0} (t t' : ℕ) (old old' : List E) → Holding t old ≡ Holding t' old' → old ≡ old'
held_history t t' old old' e = cc

module _ {E : Type 0} where
  -- between two calls, where it has no turn it has no ticket
  pub idle_of : (st : Stage E) → rests st ≡ true → turn_of st ≡ None → st ≡ Idle
  idle_of Idle r n = refl
  idle_of (Waiting t) r n = absurd (cc r)
  idle_of (InTurn t) r n = absurd (cc r)
  idle_of (Holding t h) r n = absurd (cc n)
  idle_of (Returned t old h) r n = absurd (cc r)

  pub holding_of : (st : Stage E) (h : List E) → turn_of st ≡ Some h → (t : ℕ) × (st ≡ Holding t h)
  holding_of Idle h n = absurd (cc n)
  holding_of (Waiting t) h n = absurd (cc n)
  holding_of (InTurn t) h n = absurd (cc n)
  holding_of (Holding t k) h n = (t, ap (Holding t) (cc n))
  holding_of (Returned t old k) h n = absurd (cc n)

  -- what the clauses see of a view after its turn
  pub left_is : (id : TableId) (v : View E) (t : ℕ) (old now : List E) → v.stage ≡ Holding t old → known_of id (after_turn v old now) ≡ left (known_of id v) now
  left_is id v t old now is = ap (λ (st : Stage E). record { table = id; front = now; own = v.own ++ new_places (length (began (turn_of st))) (length now); share = v.share; number = v.number; turn = None }) (sym is)
