-- Turns in their order.
use Rattle.std.proofs.Common.{◌≡◌, ℕ, zero, suc, ◌+◌, ◌-◌, ◌<◌, ◌≤◌, List, [], ◌∷◌, ◌++◌, length, take, get_or, refl, sym, ◌∙◌, ap, subst, arith, add-one, zero-add, take_all}
use Rattle.std.proofs.lemmas.List.{take_more}
use Rattle.script_text.specs.declared.statement.Turns.{Turns}
use Rattle.session_world.specs.Order.{after_item, after_schedule, after_round, after_rounds, Precedes, precedes_same, precedes_more}

pub precedes_on : (a b c : List ℕ) → Precedes a b → Precedes b c → Precedes a c
precedes_on a b c h precedes_same = h
precedes_on a b c h (precedes_more w all k) = precedes_more w all (precedes_on a b all h k)

-- ---- of one session

item_precedes : (w n : ℕ) (called : List ℕ) → Precedes called (after_item w n called)
item_precedes w zero called = precedes_same
item_precedes w (suc n) called = precedes_more w (after_item w n called) (item_precedes w n called)

item_add : (w n m : ℕ) (called : List ℕ) → after_item w n (after_item w m called) ≡ after_item w (n + m) called
item_add w zero m called = ap (λ (k : ℕ). after_item w k called) (sym (zero-add m))
item_add w (suc n) m called = let e : suc (n + m) ≡ suc n + m = omega arith in ap (λ (z : List ℕ). w ∷ z) (item_add w n m called) ∙ ap (λ (k : ℕ). after_item w k called) e

-- the turns that are left of so many
pub item_to : (w i n : ℕ) (called : List ℕ) → i ≤ n → after_item w (n - i) (after_item w i called) ≡ after_item w n called
item_to w i n called l = let e : n - i + i ≡ n = omega (arith, l) in item_add w (n - i) i called ∙ ap (λ (k : ℕ). after_item w k called) e

pub item_next : (w i : ℕ) (called : List ℕ) → w ∷ after_item w i called ≡ after_item w (i + 1) called
item_next w i called = ap (λ (k : ℕ). after_item w k called) (sym (add-one i))

pub item_within : (w i n : ℕ) (called : List ℕ) → i < n → Precedes (w ∷ after_item w i called) (after_item w n called)
item_within w i n called l = subst (λ (z : List ℕ). Precedes (after_item w (suc i) called) z) (item_to w (suc i) n called (omega (arith, l))) (item_precedes w (n - suc i) (after_item w (suc i) called))

-- ---- of a schedule

pub schedule_precedes : (ts : List Turns) (called : List ℕ) → Precedes called (after_schedule ts called)
schedule_precedes [] called = precedes_same
schedule_precedes (t ∷ ts) called = precedes_on called (after_item t.who t.times called) (after_schedule ts (after_item t.who t.times called)) (item_precedes t.who t.times called) (schedule_precedes ts (after_item t.who t.times called))

schedule_append : (ts us : List Turns) (called : List ℕ) → after_schedule (ts ++ us) called ≡ after_schedule us (after_schedule ts called)
schedule_append [] us called = refl
schedule_append (t ∷ ts) us called = schedule_append ts us (after_item t.who t.times called)

pub schedule_none : (ts : List Turns) (called : List ℕ) → after_schedule (take 0 ts) called ≡ called
schedule_none [] called = refl
schedule_none (t ∷ ts) called = refl

-- with one more item
pub schedule_next : (ts : List Turns) (i : ℕ) (none : Turns) (called : List ℕ) → i < length ts → after_item (get_or ts i none).who (get_or ts i none).times (after_schedule (take i ts) called) ≡ after_schedule (take (i + 1) ts) called
schedule_next ts i none called l = sym (ap (λ (z : List Turns). after_schedule z called) (take_more ts i none l) ∙ schedule_append (take i ts) (get_or ts i none ∷ []) called)

front_precedes : (n : ℕ) (ts : List Turns) (called : List ℕ) → Precedes (after_schedule (take n ts) called) (after_schedule ts called)
front_precedes zero [] called = precedes_same
front_precedes zero (t ∷ ts) called = schedule_precedes (t ∷ ts) called
front_precedes (suc n) [] called = precedes_same
front_precedes (suc n) (t ∷ ts) called = front_precedes n ts (after_item t.who t.times called)

pub schedule_within : (ts : List Turns) (i : ℕ) (none : Turns) (called : List ℕ) → i < length ts → Precedes (after_item (get_or ts i none).who (get_or ts i none).times (after_schedule (take i ts) called)) (after_schedule ts called)
schedule_within ts i none called l = subst (λ (z : List ℕ). Precedes z (after_schedule ts called)) (sym (schedule_next ts i none called l)) (front_precedes (i + 1) ts called)

pub schedule_all : (ts : List Turns) (i : ℕ) (called : List ℕ) → length ts ≤ i → after_schedule (take i ts) called ≡ after_schedule ts called
schedule_all ts i called l = ap (λ (z : List Turns). after_schedule z called) (take_all i ts l)

-- ---- of a round

pub round_next : (i : ℕ) (called : List ℕ) → after_round (i + 1) called ≡ (i + 1) ∷ after_round i called
round_next i called = ap (λ (k : ℕ). after_round k called) (add-one i) ∙ ap (λ (k : ℕ). k ∷ after_round i called) (sym (add-one i))

round_add : (m d : ℕ) (called : List ℕ) → Precedes (after_round m called) (after_round (d + m) called)
round_add m zero called = subst (λ (k : ℕ). Precedes (after_round m called) (after_round k called)) (sym (zero-add m)) precedes_same
round_add m (suc d) called =
    let e : suc (d + m) ≡ suc d + m = omega arith in
    subst (λ (k : ℕ). Precedes (after_round m called) (after_round k called)) e (precedes_more (suc (d + m)) (after_round (d + m) called) (round_add m d called))

round_to : (m n : ℕ) (called : List ℕ) → m ≤ n → Precedes (after_round m called) (after_round n called)
round_to m n called l = let e : n - m + m ≡ n = omega (arith, l) in subst (λ (k : ℕ). Precedes (after_round m called) (after_round k called)) e (round_add m (n - m) called)

pub round_within : (i n : ℕ) (called : List ℕ) → i < n → Precedes ((i + 1) ∷ after_round i called) (after_round n called)
round_within i n called l = subst (λ (z : List ℕ). Precedes z (after_round n called)) (round_next i called) (round_to (i + 1) n called (omega (arith, l)))

-- ---- of rounds

pub rounds_next : (count k : ℕ) (called : List ℕ) → after_round count (after_rounds count k called) ≡ after_rounds count (k + 1) called
rounds_next count k called = ap (λ (i : ℕ). after_rounds count i called) (sym (add-one k))
