-- Which commits and moves changed a row.
use Rattle.std.proofs.Common.{◌≡◌, ℕ, ◌≤◌, ◌<◌, Bool, true, false, cond, ◌&&◌, ◌||◌, eqb, leb, ltb, List, [], ◌∷◌, Option, refl, sym, ◌∙◌, ap, ap₂, arith, inl, inr, le_trans, true≢false, le-leb, leb-true, leb-false, le-ltb, lt-ltb, ltb-true, ltb-false}
use Rattle.seg_words.proofs.Lemmas.{cond-true, cond-false, cases_Bool, or_parts, and_right}
use Rattle.redo_model.specs.Records.{Record, Commit, Move}
use Rattle.redo_model.specs.Model.{Extends, Step, effect_of, txn_effect, commit_count, is_by, steps, changed, table_at}
use Rattle.redo_model.specs.Lists.{same, more}
use Rattle.scan_laws.specs.Changes.{touches, commits_row, moves_row, changed_above, changed_between, ChangesTell}

abbrev changes : List Record → Record → ℕ → Bool
changes R r n = commits_row (txn_effect r) (steps R) n || moves_row (effect_of r) n

pub counts_rise : (R : List Record) (r : Record) → commit_count R ≤ commit_count (r ∷ R)
counts_rise R (Commit c) = omega arith
counts_rise R (Move m) = omega arith
counts_rise R _ = omega arith

counts_longer : (Q R : List Record) → Extends Q R → commit_count Q ≤ commit_count R
counts_longer Q _ same = omega arith
counts_longer Q (r ∷ R) (more _ x) = le_trans (counts_longer Q R x) (counts_rise R r)

-- numbers past all commits add nothing
all_between : (R : List Record) (s e n : ℕ) → commit_count R ≤ e → changed_between R s e n ≡ changed_above R s n
all_between [] s e n l = refl
all_between (r ∷ R) s e n l = ap₂ (λ u v. u || v) (step r l) (all_between R s e n (le_trans (counts_rise R r) l))
  where
    in_reach : commit_count R < e → (r : Record) → ((leb s (commit_count R) && ltb (commit_count R) e) && changes R r n) ≡ (leb s (commit_count R) && changes R r n)
    in_reach k r = ap (λ v. (leb s (commit_count R) && v) && changes R r n) (lt-ltb (commit_count R) e k) ∙ ap (λ v. v && changes R r n) (and_true (leb s (commit_count R)))
      where
        and_true : (v : Bool) → (v && true) ≡ v
        and_true true = refl
        and_true false = refl

    nothing : (r : Record) → changes R r n ≡ false → ((leb s (commit_count R) && ltb (commit_count R) e) && changes R r n) ≡ (leb s (commit_count R) && changes R r n)
    nothing r f = and_right (leb s (commit_count R) && ltb (commit_count R) e) _ f ∙ sym (and_right (leb s (commit_count R)) _ f)

    step : (r : Record) → commit_count (r ∷ R) ≤ e → ((leb s (commit_count R) && ltb (commit_count R) e) && changes R r n) ≡ (leb s (commit_count R) && changes R r n)
    step (Commit c) k = in_reach (omega (arith, k)) (Commit c)
    step (Move m) k = in_reach (omega (arith, k)) (Move m)
    step r k = nothing r refl

-- records past e add nothing
past : (R : List Record) (r : Record) (s e n : ℕ) → e ≤ commit_count R → changed_between (r ∷ R) s e n ≡ changed_between R s e n
past R r s e n l = ap (λ v. ((leb s (commit_count R) && v) && changes R r n) || changed_between R s e n) (le-ltb (commit_count R) e l) ∙ ap (λ v. (v && changes R r n) || changed_between R s e n) (and_right (leb s (commit_count R)) false refl)

earlier : (Q R : List Record) (s n : ℕ) → Extends Q R → changed_between R s (commit_count Q) n ≡ changed_above Q s n
earlier Q _ s n same = all_between Q s (commit_count Q) n (omega arith)
earlier Q (r ∷ R) s n (more _ x) = past R r s (commit_count Q) n (counts_longer Q R x) ∙ earlier Q R s n x

-- a number stands on one side of m

parted_one : (s m e c : ℕ) (v : Bool) → s ≤ m → m ≤ e → ((leb s c && ltb c e) && v) ≡ (((leb m c && ltb c e) && v) || ((leb s c && ltb c m) && v))
parted_one s m e c v a b = elim (cases_Bool (leb m c)) [
  | inl y ↦
      let k = leb-true m c y in
      let low : leb s c ≡ true = le-leb s c (le_trans a k) in
      let out : ltb c m ≡ false = le-ltb c m k in
      rw (y, low, out) (sym (or_none ((ltb c e) && v)))
  | inr f ↦
      let k = leb-false m c f in
      let in_it : ltb c m ≡ true = lt-ltb c m k in
      let far : ltb c e ≡ true = lt-ltb c e (below c m e k b) in
      rw (f, in_it, far) refl
]
  where
    or_none : (x : Bool) → (x || false) ≡ x
    or_none true = refl
    or_none false = refl

    below : (c m e : ℕ) → c < m → m ≤ e → c < e
    below c m e k b = omega (arith, k, b)

or_swap : (a b x y : Bool) → ((a || b) || (x || y)) ≡ ((a || x) || (b || y))
or_swap true b x y = refl
or_swap false true true y = refl
or_swap false true false y = refl
or_swap false false x y = refl

parted : (R : List Record) (s m e n : ℕ) → s ≤ m → m ≤ e → changed_between R s e n ≡ (changed_between R m e n || changed_between R s m n)
parted [] s m e n a b = refl
parted (r ∷ R) s m e n a b =
    ap₂ (λ u v. u || v) (parted_one s m e (commit_count R) (changes R r n) a b) (parted R s m e n a b)
    ∙ or_swap ((leb m (commit_count R) && ltb (commit_count R) e) && changes R r n) ((leb s (commit_count R) && ltb (commit_count R) m) && changes R r n) (changed_between R m e n) (changed_between R s m n)

-- what changes nothing leaves the table

untouched : (ss : List Step) (o t n : ℕ) (old : Option (List ℕ)) → touches ss t n ≡ false → changed ss o t n old ≡ old
untouched [] o t n old h = refl
untouched (st ∷ ss) o t n old h =
    let q = or_parts (is_by st.by t && eqb st.row n) (touches ss t n) h in
    cond-false _ _ _ (both_not (is_by st.by t) (eqb st.obj o) (eqb st.row n) q.0) ∙ untouched ss o t n old q.1
  where
    both_not : (x y z : Bool) → (x && z) ≡ false → (x && (y && z)) ≡ false
    both_not false y z h = refl
    both_not true y false h = and_right y false refl
    both_not true y true h = absurd (true≢false h)

commit_leaves : (R : List Record) (t o s e n : ℕ) (x y : Option (List ℕ)) → s ≤ e → ((leb s (commit_count R) && ltb (commit_count R) e) && touches (steps R) t n) ≡ false → x ≡ y
    → cond (ltb (commit_count R) e) (changed (steps R) o t n x) x ≡ cond (ltb (commit_count R) s) (changed (steps R) o t n y) y
commit_leaves R t o s e n x y l h q = elim (cases_Bool (ltb (commit_count R) s)) [
  | inl a ↦
      let far : ltb (commit_count R) e ≡ true = lt-ltb (commit_count R) e (below (commit_count R) s e (ltb-true (commit_count R) s a) l) in
      cond-true _ _ _ far ∙ ap (changed (steps R) o t n) q ∙ sym (cond-true _ _ _ a)
  | inr b ↦ elim (cases_Bool (ltb (commit_count R) e)) [
    | inr c ↦ cond-false _ _ _ c ∙ q ∙ sym (cond-false _ _ _ b)
    | inl c ↦
        let low : leb s (commit_count R) ≡ true = le-leb s (commit_count R) (ltb-false (commit_count R) s b) in
        let none : touches (steps R) t n ≡ false = sym (ap₂ (λ u v. (u && v) && touches (steps R) t n) low c) ∙ h in
        cond-true _ _ _ c ∙ untouched (steps R) o t n x none ∙ q ∙ sym (cond-false _ _ _ b)
  ]
]
  where
    below : (c s e : ℕ) → c < s → s ≤ e → c < e
    below c s e k l = omega (arith, k, l)

table_left : (R : List Record) (o s e n : ℕ) → s ≤ e → changed_between R s e n ≡ false → table_at R o e n ≡ table_at R o s n
table_left [] o s e n l h = refl
table_left (Commit c ∷ R) o s e n l h =
    let q = or_parts ((leb s (commit_count R) && ltb (commit_count R) e) && changes R (Commit c) n) (changed_between R s e n) h in
    commit_leaves R c.txn o s e n (table_at R o e n) (table_at R o s n) l (sym (ap (λ v. (leb s (commit_count R) && ltb (commit_count R) e) && v) (or_none (touches (steps R) c.txn n))) ∙ q.0) (table_left R o s e n l q.1)
  where
    or_none : (x : Bool) → (x || false) ≡ x
    or_none true = refl
    or_none false = refl
table_left (r ∷ R) o s e n l h = table_left R o s e n l (or_parts ((leb s (commit_count R) && ltb (commit_count R) e) && changes R r n) (changed_between R s e n) h).1

pub changes_tell : ChangesTell
changes_tell R = record {
  above = λ s n. all_between R s (commit_count R) n (omega arith);
  earlier = λ Q s n x. earlier Q R s n x;
  parted = λ s m e n a b. parted R s m e n a b;
  unchanged = λ o s e n l h. table_left R o s e n l h;
}
