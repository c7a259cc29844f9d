-- The low-mark rule: every lawful list keeps it.
use Rattle.std.proofs.Common.{◌≡◌, ℕ, zero, suc, ◌+◌, ◌-◌, ◌<◌, ◌≤◌, true, false, cond, not, ◌&&◌, eqb, List, [], ◌∷◌, ◌++◌, length, take, drop, Some, None, refl, sym, ◌∙◌, ap, subst, arith, length-append, append_assoc, zero-add, append-nil, le_trans, le-add_right, add-zero, inl, inr, mul-le-mul_right, take-append-drop, le-ltb, eqb-true}
use Rattle.seg_words.proofs.Lemmas.{take-append-le, cond_both, lt-leb, and_left, and_right, and_parts, or_right, or_parts, not-true, eqb-false, cases_order, cases_Bool, cond-true, cond-false}
use Rattle.seg_words.specs.Types.{Shape, first_block, is_extent, head_blocks, MOST_TABLES}
use Rattle.redo_model.specs.Records.{Record, Extend, FormatBlock, Advance, Lower, ExtendRecord, LowerRecord, AdvanceRecord, FormatBlockRecord}
use Rattle.redo_model.specs.Model.{Extent, extents_of, in_extent, blocks_from, data_of, data_blocks, Marks, marks, is_formatted, has_extent, is_taken, first_unformatted, AdvanceAllowed, LowerAllowed, IsKindAllowed, AreAllowed}
use Rattle.redo_laws.specs.Tables.{LowMarkRule}

abbrev pub Each : (ℕ → Type 0) → List ℕ → Type 0
Each P [] = Unit {0}
Each P (b ∷ bs) = P b × Each P bs

pub each-append : (P : ℕ → Type 0) (xs ys : List ℕ) → Each P xs → Each P ys → Each P (xs ++ ys)
each-append P [] ys p q = q
each-append P (x ∷ xs) ys p q = (p.0, each-append P xs ys p.1 q)

pub each-take : (P : ℕ → Type 0) (n : ℕ) (xs : List ℕ) → Each P xs → Each P (take n xs)
each-take P zero xs p = tt
each-take P (suc n) [] p = tt
each-take P (suc n) (x ∷ xs) p = (p.0, each-take P n xs p.1)

-- the blocks from b on lie from b to b + n
pub each-blocks : (P : ℕ → Type 0) (b n : ℕ) → ((c : ℕ) → b ≤ c → c < b + n → P c) → Each P (blocks_from b n)
each-blocks P b zero h = tt
each-blocks P b (suc n) h = (h b (omega arith) (omega arith), each-blocks P (suc b) n (λ c l u. h c (omega arith) (omega arith)))

-- a block of one extent is in no other
pub apart : (sh : Shape) (x y b : ℕ) → (y ≡ x → ⊥) → first_block sh y ≤ b → b < first_block sh y + sh.extent → in_extent sh x b ≡ false
apart sh x y b ne l u =
    elim (cases_order y x) [
      | inl e ↦ absurd (ne e)
      | inr w ↦ elim w [
        | inl lt ↦ and_left _ _ (lt-leb (first_block sh x) b (omega (arith, mul-le-mul_right sh.extent lt)))
        | inr gt ↦ and_right _ _ (le-ltb b (first_block sh x + sh.extent) (omega (arith, mul-le-mul_right sh.extent gt)))
      ]
    ]

-- the data of extents that lack x lie outside x
outside : (sh : Shape) (x i : ℕ) (es : List Extent) → has_extent es x ≡ false → Each (λ b. in_extent sh x b ≡ false) (data_of sh i es)
outside sh x i [] h = tt
outside sh x i (e ∷ es) h =
    let p = or_parts (eqb e.number x) (has_extent es x) h in
    each-append _ (blocks_from (first_block sh e.number + head_blocks i) (sh.extent - head_blocks i)) _
    (each-blocks _ _ _ (λ c l u. apart sh x e.number c (eqb-false _ _ p.0) (omega arith) (omega arith)))
    (outside sh x (suc i) es p.1)

-- what is formatted stays so where a record formats more or spares it
kept_formatted : (sh : Shape) (R : List Record) (r : Record) (bs : List ℕ) → Each (λ b. is_formatted sh R b ≡ true → is_formatted sh (r ∷ R) b ≡ true) bs → first_unformatted sh R bs ≡ None → first_unformatted sh (r ∷ R) bs ≡ None
kept_formatted sh R r [] k h = refl
kept_formatted sh R r (b ∷ bs) k h =
    elim (cases_Bool (is_formatted sh R b)) [
      | inl y ↦ cond-true _ _ _ (k.0 y) ∙ kept_formatted sh R r bs k.1 (sym (cond-true _ _ _ y) ∙ h)
      | inr n ↦ let bad : Some b ≡ None = sym (cond-false _ _ _ n) ∙ h in cc
    ]

fewer : (sh : Shape) (R : List Record) (m n : ℕ) (bs : List ℕ) → m ≤ n → first_unformatted sh R (take n bs) ≡ None → first_unformatted sh R (take m bs) ≡ None
fewer sh R zero n bs l h = refl
fewer sh R (suc m) zero bs l h = absurd (omega arith)
fewer sh R (suc m) (suc n) [] l h = refl
fewer sh R (suc m) (suc n) (b ∷ bs) l h =
    elim (cases_Bool (is_formatted sh R b)) [
      | inl y ↦ cond-true _ _ _ y ∙ fewer sh R m n bs (omega arith) (sym (cond-true _ _ _ y) ∙ h)
      | inr f ↦ let bad : Some b ≡ None = sym (cond-false _ _ _ f) ∙ h in cc
    ]

pub data_of-append : (sh : Shape) (i : ℕ) (es fs : List Extent) → data_of sh i (es ++ fs) ≡ data_of sh i es ++ data_of sh (i + length es) fs
data_of-append sh i [] fs = rw add-zero refl
data_of-append sh i (e ∷ es) fs =
    ap (λ bs. blocks_from (first_block sh e.number + head_blocks i) (sh.extent - head_blocks i) ++ bs) (data_of-append sh (suc i) es fs ∙ ap (λ k. data_of sh (suc i) es ++ data_of sh k fs) (let e : suc i + length es ≡ i + suc (length es) = omega arith in e))
    ∙ sym (append_assoc (blocks_from (first_block sh e.number + head_blocks i) (sh.extent - head_blocks i)) (data_of sh (suc i) es) (data_of sh (i + suc (length es)) fs))

-- what holds of the marks and the data blocks of a table, where R is lawful
pub record LowOf (sh : Shape) (R : List Record) (m : Marks) (bs : List ℕ) : Type 0 where
  pub formatted : first_unformatted sh R (take m.low bs) ≡ None
  pub order : m.low ≤ m.high
  pub within : m.high ≤ length bs

abbrev pub Low : Shape → List Record → ℕ → Type 0
Low sh R o = LowOf sh R (marks R o) (data_blocks sh R o)

pub free_of : (R : List Record) (n o x : ℕ) → is_taken R n x ≡ false → 1 ≤ o → o ≤ n → has_extent (extents_of R o) x ≡ false
free_of R zero o x h a b = absurd (omega arith)
free_of R (suc n) o x h a b =
    let p = or_parts (has_extent (extents_of R (suc n)) x) (is_taken R n x) h in
    elim (cases_Bool (eqb o (suc n))) [
      | inl e ↦ subst (λ k. has_extent (extents_of R k) x ≡ false) (sym (eqb-true _ _ e)) p.0
      | inr e ↦ free_of R n o x p.1 a (let ne : o ≡ suc n → ⊥ = eqb-false _ _ e in omega arith)
    ]

grown : (sh : Shape) (R : List Record) (e : ExtendRecord) (o : ℕ) → (ys : List ℕ) × (data_blocks sh (Extend e ∷ R) o ≡ data_blocks sh R o ++ ys)
grown sh R e o =
    elim (eqb e.obj o) as (λ v. (ys : List ℕ) × (data_of sh 0 (cond v (extents_of R o ++ record { number = e.extent; incarnation = suc (length R) } ∷ []) (extents_of R o)) ≡ data_blocks sh R o ++ ys)) [
      | true ↦ (_, data_of-append sh 0 (extents_of R o) _)
      | false ↦ ([], sym (append-nil _))
    ]

each_weaker : (P Q : ℕ → Type 0) (xs : List ℕ) → ((b : ℕ) → P b → Q b) → Each P xs → Each Q xs
each_weaker P Q [] w h = tt
each_weaker P Q (x ∷ xs) w h = (w x h.0, each_weaker P Q xs w h.1)

each_always : (P : ℕ → Type 0) (xs : List ℕ) → ((b : ℕ) → P b) → Each P xs
each_always P [] w = tt
each_always P (x ∷ xs) w = (w x, each_always P xs w)

extend_low : (sh : Shape) (R : List Record) (e : ExtendRecord) (o : ℕ) → 1 ≤ o → o ≤ MOST_TABLES → Low sh R o → not (is_taken R MOST_TABLES e.extent) ≡ true → Low sh (Extend e ∷ R) o
extend_low sh R e o one most h free =
    let g = grown sh R e o in
    let lacks : has_extent (extents_of R o) e.extent ≡ false = free_of R MOST_TABLES o e.extent (not-true _ free) one most in
    let spared = each_take_outside sh R e o lacks in
    let longer : length (data_blocks sh (Extend e ∷ R) o) ≡ length (data_blocks sh R o) + length g.0 = ap length g.1 ∙ length-append (data_blocks sh R o) g.0 in
    record {
      formatted = subst (λ bs. first_unformatted sh (Extend e ∷ R) (take (marks R o).low bs) ≡ None) (sym g.1)
          (subst (λ bs. first_unformatted sh (Extend e ∷ R) bs ≡ None) (sym (take-append-le (marks R o).low (data_blocks sh R o) g.0 (le_trans h.order h.within)))
          (kept_formatted sh R (Extend e) _ spared h.formatted));
      order = h.order;
      within = subst (λ n. (marks R o).high ≤ n) (sym longer) (le_trans h.within (le-add_right _ _));
    }
  where
    each_take_outside : (sh : Shape) (R : List Record) (e : ExtendRecord) (o : ℕ) → has_extent (extents_of R o) e.extent ≡ false → Each (λ b. is_formatted sh R b ≡ true → is_formatted sh (Extend e ∷ R) b ≡ true) (take (marks R o).low (data_blocks sh R o))
    each_take_outside sh R e o lacks =
        each_weaker (λ b. in_extent sh e.extent b ≡ false) _ _ (λ b no yes. subst (λ v. not v && is_formatted sh R b ≡ true) (sym no) yes)
        (each-take _ (marks R o).low _ (outside sh e.extent 0 (extents_of R o) lacks))

format_low : (sh : Shape) (R : List Record) (f : FormatBlockRecord) (o : ℕ) → Low sh R o → Low sh (FormatBlock f ∷ R) o
format_low sh R f o h = record {
  formatted = kept_formatted sh R (FormatBlock f) _ (each_always _ _ (λ b. or_right (eqb f.dba b) (is_formatted sh R b))) h.formatted;
  order = h.order;
  within = h.within;
}

advance_low : (sh : Shape) (R : List Record) (m : AdvanceRecord) (o : ℕ) → Low sh R o → AdvanceAllowed sh R m → Low sh (Advance m ∷ R) o
advance_low sh R m o h a =
    cond_both (eqb m.obj o) (record { low = m.low; high = m.high }) (marks R o) (λ (ms : Marks). LowOf sh (Advance m ∷ R) ms (data_blocks sh R o))
    (λ e. subst (λ k. LowOf sh (Advance m ∷ R) (record { low = m.low; high = m.high }) (data_blocks sh R k)) (eqb-true _ _ e) (record {
      formatted = subst (λ n. first_unformatted sh R (take n (data_blocks sh R m.obj)) ≡ None) (sym a.low) a.formatted;
      order = omega (arith, a.room);
      within = omega (arith, a.room);
    }))
    (λ _. record { formatted = h.formatted; order = h.order; within = h.within })

-- the data of the first extents stand at the front
front : (sh : Shape) (n : ℕ) (es : List Extent) → data_of sh 0 es ≡ data_of sh 0 (take n es) ++ data_of sh (length (take n es)) (drop n es)
front sh n es = ap (data_of sh 0) (sym (take-append-drop n es)) ∙ data_of-append sh 0 (take n es) (drop n es) ∙ ap (λ k. data_of sh 0 (take n es) ++ data_of sh k (drop n es)) (zero-add _)

lower_same : (sh : Shape) (R : List Record) (l : LowerRecord) → Low sh R l.obj → LowerAllowed sh R l → LowOf sh R (record { low = l.low; high = l.high }) (data_of sh 0 (take l.kept (extents_of R l.obj)))
lower_same sh R l h a =
    let es = extents_of R l.obj in
    let within : l.high ≤ length (data_of sh 0 (take l.kept es)) = omega (arith, a.high) in
    let less : l.low ≤ (marks R l.obj).low = omega (arith, a.low) in
    let order : l.low ≤ l.high = omega (arith, a.low) in
    record {
      formatted = subst (λ bs. first_unformatted sh R bs ≡ None)
          (ap (take l.low) (front sh l.kept es) ∙ take-append-le l.low (data_of sh 0 (take l.kept es)) _ (le_trans order within))
          (fewer sh R l.low (marks R l.obj).low (data_blocks sh R l.obj) less h.formatted);
      order = order;
      within = within;
    }

lower_low : (sh : Shape) (R : List Record) (l : LowerRecord) (o : ℕ) → Low sh R o → LowerAllowed sh R l → Low sh (Lower l ∷ R) o
lower_low sh R l o h a =
    (elim (eqb l.obj o) as (λ v. eqb l.obj o ≡ v → LowOf sh (Lower l ∷ R) (cond v (record { low = l.low; high = l.high }) (marks R o)) (data_of sh 0 (cond v (take l.kept (extents_of R o)) (extents_of R o)))) [
      | true ↦ λ e. let same = eqb-true l.obj o e in
          let P : ℕ → Type 0 = λ k. Low sh R k → LowOf sh R (record { low = l.low; high = l.high }) (data_of sh 0 (take l.kept (extents_of R k))) in
          let at_k : P o = subst P same (λ h'. lower_same sh R l h' a) in
          let r = at_k h in record { formatted = r.formatted; order = r.order; within = r.within }
      | false ↦ λ _. record { formatted = h.formatted; order = h.order; within = h.within }
    ]) refl

step_low : (sh : Shape) (R : List Record) (r : Record) (o : ℕ) → 1 ≤ o → o ≤ MOST_TABLES → Low sh R o → IsKindAllowed sh R r → Low sh (r ∷ R) o
step_low sh R (Extend e) o one most h a = extend_low sh R e o one most h (and_parts (is_extent sh e.extent) (not (is_taken R MOST_TABLES e.extent)) a.extent.free).1
step_low sh R (FormatBlock f) o one most h a = format_low sh R f o h
step_low sh R (Advance m) o one most h a = advance_low sh R m o h a
step_low sh R (Lower l) o one most h a = lower_low sh R l o h a
step_low sh R _ o one most h a = record { formatted = h.formatted; order = h.order; within = h.within }

pub low : (sh : Shape) (R : List Record) (o : ℕ) → AreAllowed sh R → 1 ≤ o → o ≤ MOST_TABLES → Low sh R o
low sh [] o h one most = record { formatted = refl; order = omega arith; within = omega arith }
low sh (r ∷ R) o h one most = step_low sh R r o one most (low sh R o h.0 one most) h.1.kind

pub low_mark : LowMarkRule
low_mark sh R o h one most = (low sh R o h one most).formatted
