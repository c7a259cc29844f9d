-- The transactions that a row block names, slot by slot and entry by entry.
use Rattle.std.proofs.Common.{◌≡◌, ℕ, suc, ◌+◌, ◌<◌, ◌≤◌, Bool, true, false, cond, eqb, ltb, ◌||◌, List, [], ◌∷◌, length, get_or, drop, insert, slice_get, slice_set, refl, sym, ◌∙◌, ap, arith, inl, inr, true≢false, ltb-true, ltb-false, eqb-true, ne_eqb}
use Rattle.std.proofs.lemmas.Bool.{le-ltb, lt-ltb}
use Rattle.seg_words.proofs.Lemmas.{cond-true, cond-false, cases_Bool, drop_more, drop_all, eqb-false, or_left}
use Rattle.seg_words.specs.Types.{Slot, ListEntry, Writer, By, At, Block, new_slot, new_entry}
use Rattle.usage_laws.specs.Types.{insert_number, is_over, with_named, with_writer, with_slots, with_entries, ended_named, is_known, names_known}
use Rattle.space_usage.specs.Named.{place_for, has_number}

-- slots that name a transaction whose number is known

pub known_now : (f : ℕ → ℕ) (ss : List Slot) (n : ℕ) → n < length ss → names_known f ss ≡ names_known f (drop n ss) → true ≡ is_known f (get_or ss n new_slot).writer → true ≡ names_known f ss
known_now f ss n l inv y = sym (inv ∙ ap (names_known f) (drop_more ss n new_slot l) ∙ or_left (is_known f (get_or ss n new_slot).writer) (names_known f (drop (n + 1) ss)) (sym y))

pub known_next : (f : ℕ → ℕ) (ss : List Slot) (n : ℕ) → n < length ss → names_known f ss ≡ names_known f (drop n ss) → false ≡ is_known f (get_or ss n new_slot).writer → names_known f ss ≡ names_known f (drop (n + 1) ss)
known_next f ss n l inv m = inv ∙ ap (names_known f) (drop_more ss n new_slot l) ∙ ap (λ v. v || names_known f (drop (n + 1) ss)) (sym m)

pub known_end : (f : ℕ → ℕ) (ss : List Slot) (n : ℕ) → length ss ≤ n → names_known f ss ≡ names_known f (drop n ss) → false ≡ names_known f ss
known_end f ss n l inv = sym (inv ∙ ap (names_known f) (drop_all n ss l))

-- slots and entries added, one after the other

pub slots_next : (e : ℕ → Bool) (f : ℕ → ℕ) (ss : List Slot) (n : ℕ) (all cs ds : List (ℕ × ℕ)) → n < length ss → with_slots e f ss all ≡ with_slots e f (drop n ss) cs → ds ≡ with_writer e f (get_or ss n new_slot).writer cs → with_slots e f ss all ≡ with_slots e f (drop (n + 1) ss) ds
slots_next e f ss n all cs ds l inv is = inv ∙ ap (λ (xs : List Slot). with_slots e f xs cs) (drop_more ss n new_slot l) ∙ ap (with_slots e f (drop (n + 1) ss)) (sym is)

pub slots_end : (e : ℕ → Bool) (f : ℕ → ℕ) (ss : List Slot) (n : ℕ) (all cs : List (ℕ × ℕ)) → length ss ≤ n → with_slots e f ss all ≡ with_slots e f (drop n ss) cs → cs ≡ with_slots e f ss all
slots_end e f ss n all cs l inv = sym (inv ∙ ap (λ (xs : List Slot). with_slots e f xs cs) (drop_all n ss l))

pub entries_next : (e : ℕ → Bool) (f : ℕ → ℕ) (es : List ListEntry) (n : ℕ) (all cs ds : List (ℕ × ℕ)) → n < length es → with_entries e f es all ≡ with_entries e f (drop n es) cs → ds ≡ with_named e f (get_or es n new_entry).txn cs → with_entries e f es all ≡ with_entries e f (drop (n + 1) es) ds
entries_next e f es n all cs ds l inv is = inv ∙ ap (λ (xs : List ListEntry). with_entries e f xs cs) (drop_more es n new_entry l) ∙ ap (with_entries e f (drop (n + 1) es)) (sym is)

pub entries_end : (e : ℕ → Bool) (f : ℕ → ℕ) (es : List ListEntry) (n : ℕ) (all cs : List (ℕ × ℕ)) → length es ≤ n → with_entries e f es all ≡ with_entries e f (drop n es) cs → cs ≡ with_entries e f es all
entries_end e f es n all cs l inv = sym (inv ∙ ap (λ (xs : List ListEntry). with_entries e f xs cs) (drop_all n es l))

-- one put among others

passes : (t n : ℕ) (c : ℕ × ℕ) (cs : List (ℕ × ℕ)) → ltb c.0 t ≡ true → insert_number t n (c ∷ cs) ≡ c ∷ insert_number t n cs
passes t n c cs y =
    let l = ltb-true c.0 t y in
    cond-false _ _ _ (le-ltb t c.0 (omega (arith, l))) ∙ cond-false _ _ _ (ne_eqb c.0 t (λ z. omega (arith, l, z)))

place_next : (t : ℕ) (c : ℕ × ℕ) (cs : List (ℕ × ℕ)) → ltb c.0 t ≡ true → place_for t (c ∷ cs) ≡ suc (place_for t cs)
place_next t c cs y = cond-true _ _ _ y

place_here : (t : ℕ) (c : ℕ × ℕ) (cs : List (ℕ × ℕ)) → ltb c.0 t ≡ false → place_for t (c ∷ cs) ≡ 0
place_here t c cs f = cond-false _ _ _ f

pub insert_set : (t n : ℕ) (cs : List (ℕ × ℕ)) → has_number t (slice_get cs (place_for t cs)) ≡ true → insert_number t n cs ≡ slice_set cs (place_for t cs) (t, n)
insert_set t n [] h = absurd (true≢false (sym h))
insert_set t n (c ∷ cs) h = elim (cases_Bool (ltb c.0 t)) [
  | inl y ↦
      let e = place_next t c cs y in
      passes t n c cs y ∙ ap (λ (xs : List (ℕ × ℕ)). c ∷ xs) (insert_set t n cs (ap (λ k. has_number t (slice_get (c ∷ cs) k)) (sym e) ∙ h)) ∙ ap (λ k. slice_set (c ∷ cs) k (t, n)) (sym e)
  | inr f ↦
      let e = place_here t c cs f in
      let same : eqb c.0 t ≡ true = ap (λ k. has_number t (slice_get (c ∷ cs) k)) (sym e) ∙ h in
      let is = eqb-true c.0 t same in
      cond-false _ _ _ (le-ltb t c.0 (omega (arith, is))) ∙ cond-true _ _ _ same ∙ ap (λ k. slice_set (c ∷ cs) k (t, n)) (sym e)
]

pub insert_new : (t n : ℕ) (cs : List (ℕ × ℕ)) → has_number t (slice_get cs (place_for t cs)) ≡ false → insert_number t n cs ≡ insert cs (place_for t cs) (t, n)
insert_new t n [] h = refl
insert_new t n (c ∷ cs) h = elim (cases_Bool (ltb c.0 t)) [
  | inl y ↦
      let e = place_next t c cs y in
      passes t n c cs y ∙ ap (λ (xs : List (ℕ × ℕ)). c ∷ xs) (insert_new t n cs (ap (λ k. has_number t (slice_get (c ∷ cs) k)) (sym e) ∙ h)) ∙ ap (λ k. insert (c ∷ cs) k (t, n)) (sym e)
  | inr f ↦
      let e = place_here t c cs f in
      let other : eqb c.0 t ≡ false = ap (λ k. has_number t (slice_get (c ∷ cs) k)) (sym e) ∙ h in
      let is = eqb-false c.0 t other in
      let up = ltb-false c.0 t f in
      cond-true _ _ _ (lt-ltb t c.0 (less c.0 t up is)) ∙ ap (λ k. insert (c ∷ cs) k (t, n)) (sym e)
]
  where
    less : (a b : ℕ) → b ≤ a → (a ≡ b → ⊥) → b < a
    less a b u o = elim (cases_Bool (ltb b a)) [ inl y ↦ ltb-true b a y | inr f ↦ (let d = ltb-false b a f in absurd (o (omega (arith, u, d)))) ]

-- how many there are at most

insert_more : (t n : ℕ) (cs : List (ℕ × ℕ)) → length (insert_number t n cs) ≤ suc (length cs)
insert_more t n [] = omega arith
insert_more t n (c ∷ cs) = elim (ltb t c.0) as (λ v. length (cond v ((t, n) ∷ c ∷ cs) (cond (eqb c.0 t) ((t, n) ∷ cs) (c ∷ insert_number t n cs))) ≤ suc (length (c ∷ cs))) [
  | true ↦ omega arith
  | false ↦ elim (eqb c.0 t) as (λ v. length (cond v ((t, n) ∷ cs) (c ∷ insert_number t n cs)) ≤ suc (length (c ∷ cs))) [ true ↦ omega arith | false ↦ (let k = insert_more t n cs in omega (arith, k)) ]
]

named_more : (e : ℕ → Bool) (f : ℕ → ℕ) (t : ℕ) (cs : List (ℕ × ℕ)) → length (with_named e f t cs) ≤ suc (length cs)
named_more e f t cs = elim (is_over e t) as (λ v. length (cond v (insert_number t (f t) cs) cs) ≤ suc (length cs)) [ true ↦ insert_more t (f t) cs | false ↦ omega arith ]

writer_more : (e : ℕ → Bool) (f : ℕ → ℕ) (w : Writer) (cs : List (ℕ × ℕ)) → length (with_writer e f w cs) ≤ suc (length cs)
writer_more e f (By t) cs = named_more e f t cs
writer_more e f (At c) cs = omega arith

slots_more : (e : ℕ → Bool) (f : ℕ → ℕ) (ss : List Slot) (cs : List (ℕ × ℕ)) → length (with_slots e f ss cs) ≤ length ss + length cs
slots_more e f [] cs = omega arith
slots_more e f (s ∷ ss) cs =
    let k = slots_more e f ss (with_writer e f s.writer cs) in
    let m = writer_more e f s.writer cs in
    omega (arith, k, m)

entries_more : (e : ℕ → Bool) (f : ℕ → ℕ) (es : List ListEntry) (cs : List (ℕ × ℕ)) → length (with_entries e f es cs) ≤ length es + length cs
entries_more e f [] cs = omega arith
entries_more e f (x ∷ es) cs =
    let k = entries_more e f es (with_named e f x.txn cs) in
    let m = named_more e f x.txn cs in
    omega (arith, k, m)

pub few_named : (e : ℕ → Bool) (f : ℕ → ℕ) (b : Block) → length (ended_named e f b) ≤ length b.slots + length b.entries
few_named e f b =
    let k = slots_more e f b.slots [] in
    let m = entries_more e f b.entries (with_slots e f b.slots []) in
    omega (arith, k, m)

-- in a vector

pub set_told : (t n at : ℕ) (v : Bool) (front again cs : List (ℕ × ℕ)) → front ≡ cs → again ≡ cs → at ≡ place_for t front → v ≡ has_number t (slice_get again at) → v ≡ true → slice_set cs at (t, n) ≡ insert_number t n cs
set_told t n at v front again cs f a p h y =
    let e : at ≡ place_for t cs = p ∙ ap (place_for t) f in
    ap (λ k. slice_set cs k (t, n)) e
    ∙ sym (insert_set t n cs (ap (λ k. has_number t (slice_get cs k)) (sym e) ∙ ap (λ (xs : List (ℕ × ℕ)). has_number t (slice_get xs at)) (sym a) ∙ sym h ∙ y))

pub new_told : (t n at : ℕ) (v : Bool) (front again cs ds : List (ℕ × ℕ)) → front ≡ cs → again ≡ cs → at ≡ place_for t front → v ≡ has_number t (slice_get again at) → v ≡ false → ds ≡ insert cs at (t, n) → ds ≡ insert_number t n cs
new_told t n at v front again cs ds f a p h m is =
    let e : at ≡ place_for t cs = p ∙ ap (place_for t) f in
    is ∙ ap (λ k. insert cs k (t, n)) e
    ∙ sym (insert_new t n cs (ap (λ k. has_number t (slice_get cs k)) (sym e) ∙ ap (λ (xs : List (ℕ × ℕ)). has_number t (slice_get xs at)) (sym a) ∙ sym h ∙ m))
