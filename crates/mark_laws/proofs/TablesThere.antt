-- What is there of a table: an extent from its Table and first Extend on, and nothing before.
use Rattle.std.proofs.Common.{◌≡◌, ℕ, zero, suc, ◌+◌, ◌≤◌, Bool, true, false, cond, not, ◌&&◌, ◌||◌, eqb, List, [], ◌∷◌, length, take, refl, sym, ◌∙◌, ap, subst, arith, inl, inr, eqb-true, true≢false, length-append}
use Rattle.seg_words.proofs.Lemmas.{cond-true, cond-false, cases_Bool, eqb-false}
use Rattle.seg_words.specs.Types.{Shape, is_extent, MOST_TABLES}
use Rattle.redo_model.specs.Records.{Record, Table, Movement, Extend, FormatBlock, Class, Advance, Lower, Begin, Reuse, Insert, Update, Migrate, Return, Delete, Commit, Back, Ended, Move, Clean, TableRecord}
use Rattle.redo_model.specs.Model.{Extent, extents_of, table_count, IsTable, has_extent, is_taken, is_free_extent, IsLeastFree, IsKindAllowed, IsCalledFor, IsAllowed, AreAllowed, is_whole}
use Rattle.redo_laws.proofs.lists.Bools.{off}

pub whole_calls : (R : List Record) (r : Record) → is_whole R ≡ true → IsCalledFor R r
whole_calls [] r h = tt
whole_calls (Table t ∷ R) r h = absurd (true≢false (sym h))
whole_calls (Reuse q ∷ R) r h = absurd (true≢false (sym h))
whole_calls (_ ∷ R) r h = tt

still_there : (r : Record) (R : List Record) (o : ℕ) → IsTable R o → IsTable (r ∷ R) o
still_there (Table t) R o h = let m = h.most in record { least = h.least; most = omega (arith, m) }
still_there _ R o h = record { least = h.least; most = h.most }

-- a table that isn't there has no extent

other_table : (R : List Record) (o p : ℕ) → (IsTable R o → ⊥) → IsTable R p → eqb p o ≡ false
other_table R o p none i = off (eqb p o) (λ y. none (subst (IsTable R) (eqb-true p o y) i))

fresh_step : (sh : Shape) (R : List Record) (r : Record) (o : ℕ) → IsKindAllowed sh R r → (IsTable R o → ⊥) → extents_of R o ≡ [] → extents_of (r ∷ R) o ≡ []
fresh_step sh R (Extend e) o a none h = cond-false _ _ _ (other_table R o e.obj none a.table) ∙ h
fresh_step sh R (Lower l) o a none h = cond-false _ _ _ (other_table R o l.obj none a.table) ∙ h
fresh_step sh R _ o a none h = h

pub fresh_extents : (sh : Shape) (R : List Record) (o : ℕ) → AreAllowed sh R → (IsTable R o → ⊥) → extents_of R o ≡ []
fresh_extents sh [] o h none = refl
fresh_extents sh (r ∷ R) o h none = let before : IsTable R o → ⊥ = λ i. none (still_there r R o i) in fresh_step sh R r o h.1.kind before (fresh_extents sh R o h.0 before)

-- a table that is there has an extent, unless its Table is the newest record

abbrev waits : List Record → ℕ → Bool
waits (Table t ∷ R) o = eqb t.obj o
waits _ o = false

whole_waits : (R : List Record) (o : ℕ) → is_whole R ≡ true → waits R o ≡ false
whole_waits [] o h = refl
whole_waits (Table t ∷ R) o h = absurd (true≢false (sym h))
whole_waits (_ ∷ R) o h = refl

-- the record takes an extent for table p
abbrev Extends : Record → ℕ → Type 0
Extends (Extend e) p = e.obj ≡ p
Extends _ p = ⊥

called_extends : (R : List Record) (r : Record) (t : TableRecord) → IsCalledFor (Table t ∷ R) r → Extends r t.obj
called_extends R (Extend e) t c = c.0
called_extends R _ t c = absurd c

not_waiting : (R : List Record) (r : Record) (o : ℕ) → IsCalledFor R r → (Extends r o → ⊥) → waits R o ≡ false
not_waiting [] r o c h = refl
not_waiting (Table t ∷ R) r o c h = off (eqb t.obj o) (λ y. h (subst (Extends r) (eqb-true t.obj o y) (called_extends R r t c)))
not_waiting (_ ∷ R) r o c h = refl

abbrev HasOne : List Record → ℕ → Type 0
HasOne R o = 1 ≤ length (extents_of R o)

-- what is known of the table in the records before
abbrev Before : List Record → ℕ → Type 0
Before R o = IsTable R o → waits R o ≡ false → HasOne R o

one_taken : (k : ℕ) (es : List Extent) → 1 ≤ k → 1 ≤ length es → 1 ≤ length (take k es)
one_taken zero es l h = absurd (omega (arith, l))
one_taken (suc k) [] l h = h
one_taken (suc k) (e ∷ es) l h = omega arith

was_there : (R : List Record) (t : TableRecord) (o : ℕ) → t.obj ≡ suc (table_count R) → eqb t.obj o ≡ false → IsTable (Table t ∷ R) o → IsTable R o
was_there R t o n f i = let ne : t.obj ≡ o → ⊥ = eqb-false t.obj o f in let m = i.most in record { least = i.least; most = omega (arith, n, ne, m) }

one_step : (sh : Shape) (R : List Record) (r : Record) (o : ℕ) → IsAllowed sh R r → Before R o → IsTable (r ∷ R) o → waits (r ∷ R) o ≡ false → HasOne (r ∷ R) o
one_step sh R (Table t) o a b i w = b (was_there R t o a.kind.number w i) (not_waiting R (Table t) o a.called_for (λ x. x))
one_step sh R (Extend e) o a b i w = elim (cases_Bool (eqb e.obj o)) [
  | inl y ↦
      let new : Extent = record { number = e.extent; incarnation = suc (length R) } in
      let longer : length (extents_of (Extend e ∷ R) o) ≡ length (extents_of R o) + 1 = ap (λ (es : List Extent). length es) (cond-true _ _ _ y) ∙ length-append (extents_of R o) (new ∷ []) in
      omega (arith, longer)
  | inr n ↦
      let ne : e.obj ≡ o → ⊥ = eqb-false e.obj o n in
      let k = b (record { least = i.least; most = i.most }) (not_waiting R (Extend e) o a.called_for ne) in
      subst (λ (es : List Extent). 1 ≤ length es) (sym (cond-false _ _ _ n)) k
]
one_step sh R (Lower l) o a b i w =
    let k = b (record { least = i.least; most = i.most }) (not_waiting R (Lower l) o a.called_for (λ x. x)) in
    let kept = a.kind.longest in
    elim (eqb l.obj o) as (λ v. 1 ≤ length (cond v (take l.kept (extents_of R o)) (extents_of R o))) [
      | true ↦ one_taken l.kept (extents_of R o) (omega (arith, kept)) k
      | false ↦ k
    ]
one_step sh R (Movement r) o a b i w = b (record { least = i.least; most = i.most }) (not_waiting R (Movement r) o a.called_for (λ x. x))
one_step sh R (FormatBlock r) o a b i w = b (record { least = i.least; most = i.most }) (not_waiting R (FormatBlock r) o a.called_for (λ x. x))
one_step sh R (Class r) o a b i w = b (record { least = i.least; most = i.most }) (not_waiting R (Class r) o a.called_for (λ x. x))
one_step sh R (Advance r) o a b i w = b (record { least = i.least; most = i.most }) (not_waiting R (Advance r) o a.called_for (λ x. x))
one_step sh R (Begin r) o a b i w = b (record { least = i.least; most = i.most }) (not_waiting R (Begin r) o a.called_for (λ x. x))
one_step sh R (Reuse r) o a b i w = b (record { least = i.least; most = i.most }) (not_waiting R (Reuse r) o a.called_for (λ x. x))
one_step sh R (Insert r) o a b i w = b (record { least = i.least; most = i.most }) (not_waiting R (Insert r) o a.called_for (λ x. x))
one_step sh R (Update r) o a b i w = b (record { least = i.least; most = i.most }) (not_waiting R (Update r) o a.called_for (λ x. x))
one_step sh R (Migrate r) o a b i w = b (record { least = i.least; most = i.most }) (not_waiting R (Migrate r) o a.called_for (λ x. x))
one_step sh R (Return r) o a b i w = b (record { least = i.least; most = i.most }) (not_waiting R (Return r) o a.called_for (λ x. x))
one_step sh R (Delete r) o a b i w = b (record { least = i.least; most = i.most }) (not_waiting R (Delete r) o a.called_for (λ x. x))
one_step sh R (Commit r) o a b i w = b (record { least = i.least; most = i.most }) (not_waiting R (Commit r) o a.called_for (λ x. x))
one_step sh R (Back r) o a b i w = b (record { least = i.least; most = i.most }) (not_waiting R (Back r) o a.called_for (λ x. x))
one_step sh R (Ended r) o a b i w = b (record { least = i.least; most = i.most }) (not_waiting R (Ended r) o a.called_for (λ x. x))
one_step sh R (Move r) o a b i w = b (record { least = i.least; most = i.most }) (not_waiting R (Move r) o a.called_for (λ x. x))
one_step sh R (Clean r) o a b i w = b (record { least = i.least; most = i.most }) (not_waiting R (Clean r) o a.called_for (λ x. x))

one_extent : (sh : Shape) (R : List Record) (o : ℕ) → AreAllowed sh R → Before R o
one_extent sh [] o h i w = let a = i.least in let b = i.most in absurd (omega (arith, a, b))
one_extent sh (r ∷ R) o h i w = one_step sh R r o h.1 (one_extent sh R o h.0) i w

pub has_one : (sh : Shape) (R : List Record) (o : ℕ) → AreAllowed sh R → is_whole R ≡ true → IsTable R o → 1 ≤ length (extents_of R o)
has_one sh R o h w i = one_extent sh R o h i (whole_waits R o w)

-- a Table takes no extent yet

taken_table : (t : TableRecord) (R : List Record) (n x : ℕ) → is_taken (Table t ∷ R) n x ≡ is_taken R n x
taken_table t R zero x = refl
taken_table t R (suc n) x = ap (λ (b : Bool). has_extent (extents_of R (suc n)) x || b) (taken_table t R n x)

free_table : (sh : Shape) (t : TableRecord) (R : List Record) (x : ℕ) → is_free_extent sh (Table t ∷ R) x ≡ is_free_extent sh R x
free_table sh t R x = ap (λ (b : Bool). is_extent sh x && not b) (taken_table t R MOST_TABLES x)

pub least_after : (sh : Shape) (t : TableRecord) (R : List Record) (x : ℕ) → IsLeastFree sh R x → IsLeastFree sh (Table t ∷ R) x
least_after sh t R x a = record { free = free_table sh t R x ∙ a.free; least = λ y lt. free_table sh t R y ∙ a.least y lt }
