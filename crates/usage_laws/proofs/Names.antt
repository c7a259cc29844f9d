-- The list of the ended transactions that a block names: in rising order, and what it has of each transaction.
use Rattle.std.proofs.Common.{◌≡◌, ℕ, ◌<◌, ◌≤◌, Bool, true, false, cond, ◌&&◌, ◌||◌, eqb, ltb, List, [], ◌∷◌, Option, Some, None, refl, sym, ◌∙◌, ap, ap₂, subst, arith, inl, inr, eqb-true, ne_eqb, eq-eqb, ltb-true, ltb-false}
use Rattle.seg_words.proofs.Lemmas.{cond-true, cond-false, cases_Bool, eqb-false, and_from}
use Rattle.seg_words.specs.Types.{Slot, ListEntry, Writer, By, At, Block, number_of}
use Rattle.redo_model.specs.Model.{is_by, slots_name, entries_name, is_named_in, IsRising}
use Rattle.usage_laws.specs.Named.{insert_number, is_over, with_named, with_writer, with_slots, with_entries, ended_named}

-- rising order

abbrev Above : ℕ → List (ℕ × ℕ) → Type 0
Above m [] = Unit {0}
Above m (c ∷ cs) = m < c.0

rises_from : (c : ℕ × ℕ) (cs : List (ℕ × ℕ)) → Above c.0 cs → IsRising cs → IsRising (c ∷ cs)
rises_from c [] a r = tt
rises_from c (d ∷ cs) a r = (a, r)

above_of : (c : ℕ × ℕ) (cs : List (ℕ × ℕ)) → IsRising (c ∷ cs) → Above c.0 cs
above_of c [] r = tt
above_of c (d ∷ cs) r = r.0

rest_of : (c : ℕ × ℕ) (cs : List (ℕ × ℕ)) → IsRising (c ∷ cs) → IsRising cs
rest_of c [] r = tt
rest_of c (d ∷ cs) r = r.1

insert_above : (m t n : ℕ) (cs : List (ℕ × ℕ)) → m < t → Above m cs → Above m (insert_number t n cs)
insert_above m t n [] l a = l
insert_above m t n (c ∷ cs) l a =
    elim (ltb t c.0) as (λ v. Above m (cond v ((t, n) ∷ c ∷ cs) (cond (eqb c.0 t) ((t, n) ∷ cs) (c ∷ insert_number t n cs)))) [
      | true ↦ l
      | false ↦ elim (eqb c.0 t) as (λ v. Above m (cond v ((t, n) ∷ cs) (c ∷ insert_number t n cs))) [ true ↦ l | false ↦ a ]
    ]

insert_rises : (t n : ℕ) (cs : List (ℕ × ℕ)) → IsRising cs → IsRising (insert_number t n cs)
insert_rises t n [] r = tt
insert_rises t n (c ∷ cs) r =
    (elim (ltb t c.0) as (λ v. ltb t c.0 ≡ v → IsRising (cond v ((t, n) ∷ c ∷ cs) (cond (eqb c.0 t) ((t, n) ∷ cs) (c ∷ insert_number t n cs)))) [
      | true ↦ λ y. (ltb-true t c.0 y, r)
      | false ↦ λ f. (elim (eqb c.0 t) as (λ v. eqb c.0 t ≡ v → IsRising (cond v ((t, n) ∷ cs) (c ∷ insert_number t n cs))) [
        | true ↦ λ y. rises_from (t, n) cs (subst (λ x. Above x cs) (eqb-true c.0 t y) (above_of c cs r)) (rest_of c cs r)
        | false ↦ λ g.
            let from = ltb-false t c.0 f in
            let other : c.0 ≡ t → ⊥ = eqb-false c.0 t g in
            rises_from c (insert_number t n cs) (insert_above c.0 t n cs (omega (arith, from, other)) (above_of c cs r)) (insert_rises t n cs (rest_of c cs r))
      ]) refl
    ]) refl

named_rises : (ended : ℕ → Bool) (stated : ℕ → ℕ) (t : ℕ) (cs : List (ℕ × ℕ)) → IsRising cs → IsRising (with_named ended stated t cs)
named_rises ended stated t cs r = elim (is_over ended t) as (λ v. IsRising (cond v (insert_number t (stated t) cs) cs)) [ true ↦ insert_rises t (stated t) cs r | false ↦ r ]

writer_rises : (ended : ℕ → Bool) (stated : ℕ → ℕ) (w : Writer) (cs : List (ℕ × ℕ)) → IsRising cs → IsRising (with_writer ended stated w cs)
writer_rises ended stated (By t) cs r = named_rises ended stated t cs r
writer_rises ended stated (At c) cs r = r

slots_rise : (ended : ℕ → Bool) (stated : ℕ → ℕ) (ss : List Slot) (cs : List (ℕ × ℕ)) → IsRising cs → IsRising (with_slots ended stated ss cs)
slots_rise ended stated [] cs r = r
slots_rise ended stated (s ∷ ss) cs r = slots_rise ended stated ss (with_writer ended stated s.writer cs) (writer_rises ended stated s.writer cs r)

entries_rise : (ended : ℕ → Bool) (stated : ℕ → ℕ) (es : List ListEntry) (cs : List (ℕ × ℕ)) → IsRising cs → IsRising (with_entries ended stated es cs)
entries_rise ended stated [] cs r = r
entries_rise ended stated (e ∷ es) cs r = entries_rise ended stated es (with_named ended stated e.txn cs) (named_rises ended stated e.txn cs r)

pub ended_rise : (ended : ℕ → Bool) (stated : ℕ → ℕ) (b : Block) → IsRising (ended_named ended stated b)
ended_rise ended stated b = entries_rise ended stated b.entries (with_slots ended stated b.slots []) (slots_rise ended stated b.slots [] tt)

-- what the list has of a transaction

and_off : (x y : Bool) → y ≡ false → (x && y) ≡ false
and_off true y h = h
and_off false y h = refl

and_off_first : (x y : Bool) → x ≡ false → (x && y) ≡ false
and_off_first x y h = ap (λ v. v && y) h

insert_number_is : (t n u : ℕ) (cs : List (ℕ × ℕ)) → number_of (insert_number t n cs) u ≡ cond (eqb t u) (Some n) (number_of cs u)
insert_number_is t n u [] = refl
insert_number_is t n u (c ∷ cs) =
    (elim (ltb t c.0) as (λ v. number_of (cond v ((t, n) ∷ c ∷ cs) (cond (eqb c.0 t) ((t, n) ∷ cs) (c ∷ insert_number t n cs))) u ≡ cond (eqb t u) (Some n) (number_of (c ∷ cs) u)) [
      | true ↦ refl
      | false ↦ (elim (eqb c.0 t) as (λ v. eqb c.0 t ≡ v → number_of (cond v ((t, n) ∷ cs) (c ∷ insert_number t n cs)) u ≡ cond (eqb t u) (Some n) (number_of (c ∷ cs) u)) [
        | true ↦ λ y. over (eqb-true c.0 t y)
        | false ↦ λ g. ap (cond (eqb c.0 u) (Some c.1)) (insert_number_is t n u cs) ∙ swapped (eqb-false c.0 t g)
      ]) refl
    ])
  where
    over : c.0 ≡ t → cond (eqb t u) (Some n) (number_of cs u) ≡ cond (eqb t u) (Some n) (cond (eqb c.0 u) (Some c.1) (number_of cs u))
    over same = elim (cases_Bool (eqb t u)) [
      | inl y ↦ cond-true _ _ _ y ∙ sym (cond-true _ _ _ y)
      | inr f ↦ ap (cond (eqb t u) (Some n)) (sym (cond-false (eqb c.0 u) (Some c.1) (number_of cs u) (ap (λ x. eqb x u) same ∙ f)))
    ]

    swapped : (c.0 ≡ t → ⊥) → cond (eqb c.0 u) (Some c.1) (cond (eqb t u) (Some n) (number_of cs u)) ≡ cond (eqb t u) (Some n) (cond (eqb c.0 u) (Some c.1) (number_of cs u))
    swapped other = elim (cases_Bool (eqb c.0 u)) [
      | inl y ↦
          let out : eqb t u ≡ false = ne_eqb t u (λ e. other (eqb-true c.0 u y ∙ sym e)) in
          cond-true _ _ _ y ∙ sym (cond-false (eqb t u) (Some n) (cond (eqb c.0 u) (Some c.1) (number_of cs u)) out ∙ cond-true _ _ _ y)
      | inr f ↦ cond-false _ _ _ f ∙ ap (cond (eqb t u) (Some n)) (sym (cond-false (eqb c.0 u) (Some c.1) (number_of cs u) f))
    ]

named_number : (ended : ℕ → Bool) (stated : ℕ → ℕ) (t u : ℕ) (cs : List (ℕ × ℕ)) → number_of (with_named ended stated t cs) u ≡ cond (is_over ended u && eqb t u) (Some (stated u)) (number_of cs u)
named_number ended stated t u cs =
    (elim (is_over ended t) as (λ v. is_over ended t ≡ v → number_of (cond v (insert_number t (stated t) cs) cs) u ≡ cond (is_over ended u && eqb t u) (Some (stated u)) (number_of cs u)) [
      | true ↦ λ y. insert_number_is t (stated t) u cs ∙ inside y
      | false ↦ λ n. outside n
    ]) refl
  where
    inside : is_over ended t ≡ true → cond (eqb t u) (Some (stated t)) (number_of cs u) ≡ cond (is_over ended u && eqb t u) (Some (stated u)) (number_of cs u)
    inside h = elim (cases_Bool (eqb t u)) [
      | inl y ↦
          let same : t ≡ u = eqb-true t u y in
          cond-true _ _ _ y ∙ ap (λ x. Some (stated x)) same ∙ sym (cond-true _ _ _ (and_from (is_over ended u) (eqb t u) (subst (λ x. is_over ended x ≡ true) same h) y))
      | inr f ↦ cond-false _ _ _ f ∙ sym (cond-false _ _ _ (and_off (is_over ended u) (eqb t u) f))
    ]

    outside : is_over ended t ≡ false → number_of cs u ≡ cond (is_over ended u && eqb t u) (Some (stated u)) (number_of cs u)
    outside h = elim (cases_Bool (eqb t u)) [
      | inl y ↦ sym (cond-false _ _ _ (and_off_first (is_over ended u) (eqb t u) (subst (λ x. is_over ended x ≡ false) (eqb-true t u y) h)))
      | inr f ↦ sym (cond-false _ _ _ (and_off (is_over ended u) (eqb t u) f))
    ]

writer_number : (ended : ℕ → Bool) (stated : ℕ → ℕ) (w : Writer) (u : ℕ) (cs : List (ℕ × ℕ)) → number_of (with_writer ended stated w cs) u ≡ cond (is_over ended u && is_by w u) (Some (stated u)) (number_of cs u)
writer_number ended stated (By t) u cs = named_number ended stated t u cs
writer_number ended stated (At c) u cs = sym (cond-false _ _ _ (and_off (is_over ended u) false refl))

either : (x y z : Bool) (m o : Option ℕ) → cond (x && z) m (cond (x && y) m o) ≡ cond (x && (y || z)) m o
either false y z m o = refl
either true true true m o = refl
either true true false m o = refl
either true false z m o = refl

slots_number : (ended : ℕ → Bool) (stated : ℕ → ℕ) (ss : List Slot) (u : ℕ) (cs : List (ℕ × ℕ)) → number_of (with_slots ended stated ss cs) u ≡ cond (is_over ended u && slots_name ss u) (Some (stated u)) (number_of cs u)
slots_number ended stated [] u cs = sym (cond-false _ _ _ (and_off (is_over ended u) false refl))
slots_number ended stated (s ∷ ss) u cs =
    slots_number ended stated ss u (with_writer ended stated s.writer cs) ∙ ap (cond (is_over ended u && slots_name ss u) (Some (stated u))) (writer_number ended stated s.writer u cs)
    ∙ either (is_over ended u) (is_by s.writer u) (slots_name ss u) (Some (stated u)) (number_of cs u)

entries_number : (ended : ℕ → Bool) (stated : ℕ → ℕ) (es : List ListEntry) (u : ℕ) (cs : List (ℕ × ℕ)) → number_of (with_entries ended stated es cs) u ≡ cond (is_over ended u && entries_name es u) (Some (stated u)) (number_of cs u)
entries_number ended stated [] u cs = sym (cond-false _ _ _ (and_off (is_over ended u) false refl))
entries_number ended stated (e ∷ es) u cs =
    entries_number ended stated es u (with_named ended stated e.txn cs) ∙ ap (cond (is_over ended u && entries_name es u) (Some (stated u))) (named_number ended stated e.txn u cs)
    ∙ either (is_over ended u) (eqb e.txn u) (entries_name es u) (Some (stated u)) (number_of cs u)

pub ended_number : (ended : ℕ → Bool) (stated : ℕ → ℕ) (b : Block) (u : ℕ) → number_of (ended_named ended stated b) u ≡ cond (is_over ended u && is_named_in b u) (Some (stated u)) None
ended_number ended stated b u =
    entries_number ended stated b.entries u (with_slots ended stated b.slots []) ∙ ap (cond (is_over ended u && entries_name b.entries u) (Some (stated u))) (slots_number ended stated b.slots u [])
    ∙ either (is_over ended u) (slots_name b.slots u) (entries_name b.entries u) (Some (stated u)) None

-- two lists in rising order that have the same of each transaction

none_under : (m t : ℕ) (cs : List (ℕ × ℕ)) → Above m cs → IsRising cs → t ≤ m → number_of cs t ≡ None
none_under m t [] a r l = refl
none_under m t (c ∷ cs) a r l = cond-false _ _ _ (ne_eqb c.0 t (λ e. absurd (omega (arith, a, l, e)))) ∙ none_under c.0 t cs (above_of c cs r) (rest_of c cs r) (omega (arith, a, l))

head_is : (c : ℕ × ℕ) (cs : List (ℕ × ℕ)) → number_of (c ∷ cs) c.0 ≡ Some c.1
head_is c cs = cond-true _ _ _ (eq-eqb c.0 c.0 refl)

not_none : (n : ℕ) → ◌≡◌ {A = Option ℕ} None (Some n) → ⊥
not_none n e = cc

not_less : (c d : ℕ × ℕ) (cs ds : List (ℕ × ℕ)) → IsRising (d ∷ ds) → number_of (c ∷ cs) c.0 ≡ number_of (d ∷ ds) c.0 → c.0 < d.0 → ⊥
not_less c d cs ds r e l = not_none c.1 (sym (none_under c.0 c.0 (d ∷ ds) l r (omega arith)) ∙ sym e ∙ head_is c cs)

same_value : (m n : ℕ) → ◌≡◌ {A = Option ℕ} (Some m) (Some n) → m ≡ n
same_value m n e = cc

pub rising_same : (cs ds : List (ℕ × ℕ)) → IsRising cs → IsRising ds → ((t : ℕ) → number_of cs t ≡ number_of ds t) → cs ≡ ds
rising_same [] [] r q h = refl
rising_same [] (d ∷ ds) r q h = absurd (not_none d.1 (h d.0 ∙ head_is d ds))
rising_same (c ∷ cs) [] r q h = absurd (not_none c.1 (sym (h c.0) ∙ head_is c cs))
rising_same (c ∷ cs) (d ∷ ds) r q h =
    let up : c.0 < d.0 → ⊥ = not_less c d cs ds q (h c.0) in
    let down : d.0 < c.0 → ⊥ = not_less d c ds cs r (sym (h d.0)) in
    let first : c.0 ≡ d.0 = omega (arith, up, down) in
    let value : c.1 ≡ d.1 = same_value c.1 d.1 (sym (head_is c cs) ∙ h c.0 ∙ ap (number_of (d ∷ ds)) first ∙ head_is d ds) in
    ap₂ (λ (x : ℕ × ℕ) (xs : List (ℕ × ℕ)). x ∷ xs) (ap₂ (λ (x y : ℕ). (x, y)) first value) (rising_same cs ds (rest_of c cs r) (rest_of d ds q) (λ t. rest t first))
  where
    rest : (t : ℕ) → c.0 ≡ d.0 → number_of cs t ≡ number_of ds t
    rest t first = elim (cases_Bool (eqb c.0 t)) [
      | inl y ↦
          let same : c.0 ≡ t = eqb-true c.0 t y in
          none_under c.0 t cs (above_of c cs r) (rest_of c cs r) (omega (arith, same)) ∙ sym (none_under d.0 t ds (above_of d ds q) (rest_of d ds q) (omega (arith, same, first)))
      | inr f ↦ sym (cond-false (eqb c.0 t) (Some c.1) (number_of cs t) f) ∙ h t ∙ cond-false (eqb d.0 t) (Some d.1) (number_of ds t) (ap (λ x. eqb x t) (sym first) ∙ f)
    ]
