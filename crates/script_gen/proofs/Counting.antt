-- How many statements the generated script has.
use Rattle.std.proofs.Common.{◌≡◌, ℕ, zero, suc, ◌+◌, ◌/◌, ◌%◌, ◌<◌, ◌||◌, ◌==◌, Bool, cond, List, [], ◌∷◌, ◌++◌, length, refl, ◌∙◌, ap, arith, inl, inr, length-append, eq-eqb, ne_eqb}
use Rattle.seg_words.proofs.Lemmas.{cases_eq, or_right}
use Rattle.script_text.specs.declared.statement.Statement.{Statement}
use Rattle.script_text.specs.declared.statement.Statement.TheVariants as asks
use Rattle.script_gen.specs.Drawn.{nth_number}
use Rattle.script_gen.specs.Generated.{commit_after, delete_of, deletes_at, deletes_to, ending, insert_of, inserts_to, making, statements_of}

-- ---- commits

abbrev commit_if : Bool → List Statement
commit_if due = cond due (asks.Commit ∷ []) []

no_commit : (rows i : ℕ) → (i % 100 ≡ 0 → ⊥) → (i ≡ rows → ⊥) → length (commit_after rows i) ≡ 0
no_commit rows i part other = ap (λ (due : Bool). length (commit_if due)) (ap (λ (b : Bool). b || (i == rows)) (ne_eqb (i % 100) 0 part) ∙ ne_eqb i rows other)

full_commit : (rows i : ℕ) → i % 100 ≡ 0 → length (commit_after rows i) ≡ 1
full_commit rows i full = ap (λ (b : Bool). length (commit_if (b || (i == rows)))) (eq-eqb (i % 100) 0 full)

last_commit : (rows i : ℕ) → i ≡ rows → length (commit_after rows i) ≡ 1
last_commit rows i last = ap (λ (due : Bool). length (commit_if due)) (or_right (i % 100 == 0) (i == rows) (eq-eqb i rows last))

-- ---- the rows before the last one

row_more : (number rows i : ℕ) → length (inserts_to number rows (suc i)) ≡ length (inserts_to number rows i) + suc (length (commit_after rows (suc i)))
row_more number rows i = length-append (inserts_to number rows i) (insert_of (suc i) (nth_number number (suc i)) ∷ commit_after rows (suc i))

before_last : (number rows i : ℕ) → i < rows → length (inserts_to number rows i) ≡ i + i / 100
before_last number rows zero less = refl
before_last number rows (suc i) less =
    let so_far = before_last number rows i (omega (arith, less)) in
    let more = row_more number rows i in
    elim (cases_eq (suc i % 100) 0) [
      | inl full ↦ (let one = full_commit rows (suc i) full in omega (arith, so_far, more, one, full))
      | inr part ↦ (let none = no_commit rows (suc i) part (λ e. omega (arith, e, less)) in omega (arith, so_far, more, none, part))
    ]

at_last : (number rows : ℕ) → length (inserts_to number rows rows) ≡ rows + (rows + 99) / 100
at_last number zero = refl
at_last number (suc i) =
    let so_far = before_last number (suc i) i (omega arith) in
    let more = row_more number (suc i) i in
    let one = last_commit (suc i) (suc i) refl in
    omega (arith, so_far, more, one)

-- ---- deletes

second_deleted : (i : ℕ) → i % 2 ≡ 0 → length (deletes_at i) ≡ 1
second_deleted i even = ap (λ (b : Bool). length (cond b (delete_of i ∷ []) [])) (eq-eqb (i % 2) 0 even)

first_kept : (i : ℕ) → (i % 2 ≡ 0 → ⊥) → length (deletes_at i) ≡ 0
first_kept i odd = ap (λ (b : Bool). length (cond b (delete_of i ∷ []) [])) (ne_eqb (i % 2) 0 odd)

deleted : (i : ℕ) → length (deletes_to i) ≡ i / 2
deleted zero = refl
deleted (suc i) =
    let so_far = deleted i in
    let more = length-append (deletes_to i) (deletes_at (suc i)) in
    elim (cases_eq (suc i % 2) 0) [
      | inl even ↦ (let one = second_deleted (suc i) even in omega (arith, so_far, more, one, even))
      | inr odd ↦ (let none = first_kept (suc i) odd in omega (arith, so_far, more, none, odd))
    ]

pub counted : (number rows : ℕ) → length (statements_of number rows) ≡ 5 + rows + (rows + 99) / 100 + rows / 2
counted number rows =
    let inserts = at_last number rows in
    let deletes = deleted rows in
    let one = length-append making (inserts_to number rows rows) in
    let two = length-append (making ++ inserts_to number rows rows) (deletes_to rows) in
    let three = length-append (making ++ inserts_to number rows rows ++ deletes_to rows) ending in
    omega (arith, inserts, deletes, one, two, three)
