-- Where the walk down a slot's images ends.
use Rattle.std.proofs.Common.{◌≡◌, ◌⊎◌, ℕ, zero, suc, ◌<◌, true, false, cond, not, ◌&&◌, eqb, ltb, List, [], ◌∷◌, length, map, filter, slice_index_or, Contains, refl, sym, ◌∙◌, ap, subst, arith, inl, inr, true≢false, ltb-true}
use Rattle.seg_words.proofs.Lemmas.{cases_lt, and_parts}
use Rattle.seg_words.specs.Types.{Slot, UndoAddr, Writer, By, At, new_slot}
use Rattle.redo_model.specs.Records.{Record}
use Rattle.redo_model.specs.Model.{is_forgotten, control_number, image, slot_count, is_reused, needed_on, reached_on, Made, makers, counts, first_counted, image_at}
use Rattle.redo_laws.specs.Among.{IsOneOf}
use Rattle.redo_laws.specs.Chain.{IsAmong}
use Rattle.redo_laws.proofs.steps.Beyond.{beyond}
use Rattle.redo_laws.proofs.numbers.TxnTable.{txn_table}
use Rattle.version_laws.specs.Types.{ChainEnd, Found, Lost, Unknown, is_unknown, named_by, end_from, chain_end, EndMeans, ChainsEnd, NowIsFound}
use Rattle.version_laws.proofs.Reached.{now_is_reached}

-- lists

has_slot : (xs : List Slot) (i : Slot) → IsOneOf i xs → Contains xs i
has_slot [] i h = absurd h
has_slot (x ∷ xs) i h = elim h [ inl e ↦ (0, omega arith, e) | inr y ↦ let r = has_slot xs i y in (suc r.0, (let l = r.1 in omega (arith, l)), r.2) ]

has_addr : (xs : List UndoAddr) (a : UndoAddr) → IsAmong a xs → Contains xs a
has_addr [] a h = absurd h
has_addr (x ∷ xs) a h = elim h [ inl e ↦ (0, omega arith, e) | inr y ↦ let r = has_addr xs a y in (suc r.0, (let l = r.1 in omega (arith, l)), r.2) ]

among_has : (xs : List UndoAddr) (a : UndoAddr) (n : ℕ) → n < length xs → slice_index_or xs n a ≡ a → IsAmong a xs
among_has [] a n l e = absurd (omega arith)
among_has (x ∷ xs) a zero l e = inl e
among_has (x ∷ xs) a (suc n) l e = inr (among_has xs a n (omega arith) e)

-- from any image down

record IsAbove (R : List Record) (s : ℕ) (reached : List Slot) (u : ℕ) : Type 0 where
  image : Slot
  there : IsOneOf image reached
  names : image.writer ≡ By u
  forgotten : is_forgotten R u ≡ true
  above : s < control_number R

abbrev EndIs : List Record → ℕ → Slot → List UndoAddr → List Slot → ChainEnd → Type 0
EndIs R s first needed reached (Found j) = j ≡ first
EndIs R s first needed reached (Lost a) = IsAmong a needed × (is_reused R a ≡ true)
EndIs R s first needed reached (Unknown u) = IsAbove R s reached u

end_more : (R : List Record) (s : ℕ) (first : Slot) (ns : List UndoAddr) (rs : List Slot) (a : UndoAddr) (i : Slot) (x : ChainEnd) → EndIs R s first ns rs x → EndIs R s first (a ∷ ns) (i ∷ rs) x
end_more R s first ns rs a i (Found j) h = h
end_more R s first ns rs a i (Lost b) h = (inr h.0, h.1)
end_more R s first ns rs a i (Unknown u) h = record { image = h.image; there = inr h.there; names = h.names; forgotten = h.forgotten; above = h.above }

unknown_means : (R : List Record) (s t : ℕ) (w : Writer) → is_unknown R s t w ≡ true → (w ≡ By (named_by w)) × (is_forgotten R (named_by w) ≡ true) × (s < control_number R)
unknown_means R s t (By u) h =
    let p = and_parts (not (eqb u t)) (is_forgotten R u && ltb s (control_number R)) h in
    let q = and_parts (is_forgotten R u) (ltb s (control_number R)) p.1 in
    (refl, q.0, ltb-true s (control_number R) q.1)
unknown_means R s t (At c) h = absurd (true≢false (sym h))

abbrev Seen : List Record → ℕ → ℕ → Slot → List Made → ChainEnd → Type 0
Seen R s t i ms x = EndIs R s (first_counted (λ w u. counts R s t w) i ms) (needed_on (λ w u. counts R s t w) ms) (reached_on (λ w u. counts R s t w) i ms) x

unknown_seen : (R : List Record) (s t : ℕ) (i : Slot) (first : Slot) (ns : List UndoAddr) (rs : List Slot) → is_unknown R s t i.writer ≡ true → EndIs R s first ns (i ∷ rs) (Unknown (named_by i.writer))
unknown_seen R s t i first ns rs e = let q = unknown_means R s t i.writer e in record { image = i; there = inl refl; names = q.0; forgotten = q.1; above = q.2 }

end_seen : (R : List Record) (s t : ℕ) (i : Slot) (ms : List Made) → Seen R s t i ms (end_from R s t i ms)
end_seen R s t i [] = refl
end_seen R s t i (m ∷ ms) =
    (elim (is_unknown R s t i.writer) as (λ v. is_unknown R s t i.writer ≡ v → Seen R s t i (m ∷ ms) (cond v (Unknown (named_by i.writer)) (cond (counts R s t m.by) (Found i) (cond (is_reused R m.part) (Lost m.part) (end_from R s t m.old ms))))) [
      | true ↦ λ e. unknown_seen R s t i (first_counted (λ w u. counts R s t w) i (m ∷ ms)) (needed_on (λ w u. counts R s t w) (m ∷ ms)) (cond (counts R s t m.by) [] (reached_on (λ w u. counts R s t w) m.old ms)) e
      | false ↦ λ e. elim (counts R s t m.by) as (λ v. EndIs R s (cond v i (first_counted (λ w u. counts R s t w) m.old ms))
          (map (λ (x : Made). x.part) (cond (not v) (m ∷ filter (λ (x : Made). not (counts R s t x.by)) ms) (filter (λ (x : Made). not (counts R s t x.by)) ms)))
          (i ∷ cond v [] (reached_on (λ w u. counts R s t w) m.old ms))
          (cond v (Found i) (cond (is_reused R m.part) (Lost m.part) (end_from R s t m.old ms)))) [
            | true ↦ refl
            | false ↦ (elim (is_reused R m.part) as (λ z. is_reused R m.part ≡ z → EndIs R s (first_counted (λ w u. counts R s t w) m.old ms) (m.part ∷ needed_on (λ w u. counts R s t w) ms)
                (i ∷ reached_on (λ w u. counts R s t w) m.old ms) (cond z (Lost m.part) (end_from R s t m.old ms))) [
                  | true ↦ λ f. (inl refl, f)
                  | false ↦ λ f. end_more R s (first_counted (λ w u. counts R s t w) m.old ms) (needed_on (λ w u. counts R s t w) ms) (reached_on (λ w u. counts R s t w) m.old ms) m.part i (end_from R s t m.old ms) (end_seen R s t m.old ms)
                ]) refl
          ]
    ]) refl

-- from the image that stands there

needed_there : (R : List Record) (b k s t : ℕ) (a : UndoAddr) → IsAmong a (needed_on (λ w u. counts R s t w) (makers R b k)) → k < slot_count R b
needed_there R b k s t a h = elim (cases_lt k (slot_count R b)) [
  | inl l ↦ l
  | inr m ↦ absurd (subst (λ (ms : List Made). IsAmong a (needed_on (λ w u. counts R s t w) ms)) (beyond R b k m).1 h)
]

new_names : (i j : Slot) (u : ℕ) → i ≡ new_slot → i ≡ j → j.writer ≡ By u → ⊥
new_names i j u e f g = let z : At 0 ≡ By u = sym (ap (λ (x : Slot). x.writer) e) ∙ ap (λ (x : Slot). x.writer) f ∙ g in cc

reached_there : (R : List Record) (b k s t u : ℕ) (j : Slot) → IsOneOf j (reached_on (λ w u. counts R s t w) (image R b k) (makers R b k)) → j.writer ≡ By u → k < slot_count R b
reached_there R b k s t u j h g = elim (cases_lt k (slot_count R b)) [
  | inl l ↦ l
  | inr m ↦ absurd (elim (subst (λ (ms : List Made). IsOneOf j (reached_on (λ w u. counts R s t w) (image R b k) ms)) (beyond R b k m).1 h) [
    | inl e ↦ new_names (image R b k) j u (beyond R b k m).0 e g
    | inr z ↦ z
  ])
]

end_means : (R : List Record) (b k s t : ℕ) (x : ChainEnd) → Seen R s t (image R b k) (makers R b k) x → EndMeans R b k s t x
end_means R b k s t (Found j) h = h
end_means R b k s t (Lost a) h = record { needed = record { slot = k; there = needed_there R b k s t a h.0; needed = has_addr _ a h.0 }; reused = h.1 }
end_means R b k s t (Unknown u) h = record {
  image = h.image;
  reached = record { slot = k; there = reached_there R b k s t u h.image h.there h.names; reached = has_slot _ h.image h.there };
  names = h.names;
  forgotten = h.forgotten;
  above = h.above;
}

pub chains_end : ChainsEnd
chains_end R b k s t = end_means R b k s t (chain_end R b k s t) (end_seen R s t (image R b k) (makers R b k))

pub now_is_found : NowIsFound
now_is_found sh R b k s t h l o = go (chain_end R b k s t) (end_seen R s t (image R b k) (makers R b k))
  where
    go : (x : ChainEnd) → Seen R s t (image R b k) (makers R b k) x → x ≡ Found (image_at R b k s t)
    go (Found j) y = ap Found y
    go (Lost a) y = absurd (true≢false (sym y.1 ∙ now_is_reached sh R b k s t a h l o y.0))
    go (Unknown u) y = absurd (let c = (txn_table sh R h).control in let a = y.above in omega (arith, c, a, l))
