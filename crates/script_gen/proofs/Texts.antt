-- The text of the generated script, line by line.
use Rattle.std.proofs.Common.{◌≡◌, ℕ, zero, suc, ◌+◌, ◌*◌, ◌<◌, ◌≤◌, ◌^◌, Bool, true, false, cond, List, [], ◌∷◌, ◌++◌, length, Ok, Err, Result, refl, sym, ◌∙◌, ap, arith, add-one, append_assoc, append-nil, length-append, codes, decimal}
use Rattle.std.specs.Fmt.{digits}
use Rattle.std.specs.Str.Lines.{lines}
use Rattle.std.proofs.lemmas.Fmt.{length-decimal-le}
use Rattle.script_text.specs.declared.form.TheConstants.{ALL_FORMS}
use Rattle.script_text.specs.declared.statement.Statement.{Statement}
use Rattle.script_text.specs.declared.statement.Statement.TheVariants as asks
use Rattle.script_text.specs.declared.why.ScriptFault.{ScriptFault}
use Rattle.script_text.specs.Script.{Script}
use Rattle.script_text.specs.Grammar.{scripts_of}
use Rattle.script_text.specs.Spelled.{printed, session_line, statement_line, statement_lines}
use Rattle.script_text.proofs.Cuts.{few_lines}
use Rattle.script_text.proofs.ScriptSaid.{printed_says}
use Rattle.script_gen.specs.Drawn.{next_number, nth_number, row_of}
use Rattle.script_gen.specs.Generated.{commit_after, delete_of, deletes_at, deletes_to, ending, generated, insert_of, inserts_to, making, statements_of}
use Rattle.script_gen.proofs.InGrammar.{in_grammar, row_length}

-- ---- one line

pub insert_text : (old : List ℕ) (i x : ℕ) → ((((old ++ codes "insert g @r") ++ decimal i) ++ codes " ") ++ row_of x) ++ codes "\n" ≡ old ++ statement_line (insert_of i x)
unfolding statement_line
insert_text old i x = simp append_assoc

pub delete_text : (old : List ℕ) (i : ℕ) → ((old ++ codes "delete g @r") ++ decimal i) ++ codes "\n" ≡ old ++ statement_line (delete_of i)
unfolding statement_line
delete_text old i = simp append_assoc

pub making_text : codes "table g 10\nmovement g on\n" ≡ statement_lines making
unfolding statement_line digits
making_text = refl

-- ---- more lines

lines_append : (xs ys : List Statement) → statement_lines (xs ++ ys) ≡ statement_lines xs ++ statement_lines ys
lines_append [] ys = refl
lines_append (s ∷ xs) ys = ap (λ (rest : List ℕ). statement_line s ++ rest) (lines_append xs ys) ∙ sym (append_assoc (statement_line s) (statement_lines xs) (statement_lines ys))

more_lines : (old now new : List ℕ) (xs ys zs : List Statement) → now ≡ old ++ statement_lines xs → new ≡ now ++ statement_lines ys → zs ≡ xs ++ ys → new ≡ old ++ statement_lines zs
more_lines old now new xs ys zs h e is =
    e ∙ (ap (λ (z : List ℕ). z ++ statement_lines ys) h ∙ (append_assoc old (statement_lines xs) (statement_lines ys) ∙ ap (λ (z : List ℕ). old ++ z) (sym (ap statement_lines is ∙ lines_append xs ys))))

pub drawn_more : (number i x : ℕ) → x ≡ nth_number number i → next_number x ≡ nth_number number (i + 1)
drawn_more number i x e = ap next_number e ∙ ap (nth_number number) (sym (add-one i))

pub inserts_more : (number rows i x : ℕ) (old now new : List ℕ) → now ≡ old ++ statement_lines (inserts_to number rows i) → x ≡ nth_number number i → new ≡ now ++ statement_lines (insert_of (i + 1) (next_number x) ∷ commit_after rows (i + 1)) → new ≡ old ++ statement_lines (inserts_to number rows (i + 1))
inserts_more number rows i x old now new h drew e =
    more_lines old now new (inserts_to number rows i) (insert_of (i + 1) (next_number x) ∷ commit_after rows (i + 1)) (inserts_to number rows (i + 1)) h e
    (ap (inserts_to number rows) (add-one i)
    ∙ (ap (λ (k : ℕ). inserts_to number rows i ++ (insert_of k (nth_number number k) ∷ commit_after rows k)) (sym (add-one i))
    ∙ ap (λ (z : ℕ). inserts_to number rows i ++ (insert_of (i + 1) z ∷ commit_after rows (i + 1))) (sym (drawn_more number i x drew))))

pub deletes_more : (i : ℕ) (old now new : List ℕ) → now ≡ old ++ statement_lines (deletes_to i) → new ≡ now ++ statement_lines (deletes_at (i + 1)) → new ≡ old ++ statement_lines (deletes_to (i + 1))
deletes_more i old now new h e =
    more_lines old now new (deletes_to i) (deletes_at (i + 1)) (deletes_to (i + 1)) h e (ap deletes_to (add-one i) ∙ ap (λ (k : ℕ). deletes_to i ++ deletes_at k) (sym (add-one i)))

pub whole_text : (number rows : ℕ) → (((codes "session 1\n" ++ statement_lines making) ++ statement_lines (inserts_to number rows rows)) ++ statement_lines (deletes_to rows)) ++ statement_lines ending ≡ printed (generated number rows)
unfolding printed session_line digits generated
whole_text number rows =
    let inserts = inserts_to number rows rows in
    let deletes = deletes_to rows in
    let one = lines_append making inserts in
    let two = lines_append (making ++ inserts) deletes ∙ ap (λ (z : List ℕ). z ++ statement_lines deletes) one in
    let three : statement_lines (statements_of number rows) ≡ ((statement_lines making ++ statement_lines inserts) ++ statement_lines deletes) ++ statement_lines ending = lines_append (making ++ inserts ++ deletes) ending ∙ ap (λ (z : List ℕ). z ++ statement_lines ending) two in
    sym (append-nil (codes "session 1\n" ++ (statement_lines (statements_of number rows) ++ []))
    ∙ (ap (λ (z : List ℕ). codes "session 1\n" ++ z) (append-nil (statement_lines (statements_of number rows)) ∙ three)))

-- ---- it is short

insert_short : (i x : ℕ) → i < 2 ^ 16 → length (statement_line (insert_of i x)) ≤ 98
insert_short i x small =
    let whole = ap (λ (z : List ℕ). length z) (insert_text [] i x) in
    let a = length-append (decimal i ++ codes " " ++ row_of x) (codes "\n") in
    let b = length-append (decimal i ++ codes " ") (row_of x) in
    let d = length-append (decimal i) (codes " ") in
    let short : length (decimal i) ≤ 5 = length-decimal-le 5 i (omega arith) (omega (arith, small)) (omega (arith, small)) in
    let long = row_length x in
    omega (arith, whole, a, b, d, short, long)

delete_short : (i : ℕ) → i < 2 ^ 16 → length (statement_line (delete_of i)) ≤ 17
delete_short i small =
    let whole = ap (λ (z : List ℕ). length z) (delete_text [] i) in
    let a = length-append (decimal i) (codes "\n") in
    let short : length (decimal i) ≤ 5 = length-decimal-le 5 i (omega arith) (omega (arith, small)) (omega (arith, small)) in
    omega (arith, whole, a, short)

commits_short : (due : Bool) → length (statement_lines (cond due (asks.Commit ∷ []) [])) ≤ 7
unfolding statement_line
commits_short true = omega arith
commits_short false = omega arith

deletes_short : (i : ℕ) (due : Bool) → i < 2 ^ 16 → length (statement_lines (cond due (delete_of i ∷ []) [])) ≤ 17
deletes_short i true small = (let short = delete_short i small in let a = length-append (statement_line (delete_of i)) [] in omega (arith, short, a))
deletes_short i false small = omega arith

inserts_short_to : (number rows i : ℕ) → i < 2 ^ 16 → length (statement_lines (inserts_to number rows i)) ≤ i * 105
inserts_short_to number rows zero small = omega arith
inserts_short_to number rows (suc i) small =
    let x = nth_number number (suc i) in
    let so_far = inserts_short_to number rows i (omega (arith, small)) in
    let both = ap (λ (z : List ℕ). length z) (lines_append (inserts_to number rows i) (insert_of (suc i) x ∷ commit_after rows (suc i))) in
    let a = length-append (statement_lines (inserts_to number rows i)) (statement_lines (insert_of (suc i) x ∷ commit_after rows (suc i))) in
    let b = length-append (statement_line (insert_of (suc i) x)) (statement_lines (commit_after rows (suc i))) in
    let short = insert_short (suc i) x small in
    let few : length (statement_lines (commit_after rows (suc i))) ≤ 7 = commits_short _ in
    omega (arith, so_far, both, a, b, short, few)

deletes_short_to : (i : ℕ) → i < 2 ^ 16 → length (statement_lines (deletes_to i)) ≤ i * 17
deletes_short_to zero small = omega arith
deletes_short_to (suc i) small =
    let so_far = deletes_short_to i (omega (arith, small)) in
    let both = ap (λ (z : List ℕ). length z) (lines_append (deletes_to i) (deletes_at (suc i))) in
    let a = length-append (statement_lines (deletes_to i)) (statement_lines (deletes_at (suc i))) in
    let short : length (statement_lines (deletes_at (suc i))) ≤ 17 = deletes_short (suc i) _ small in
    omega (arith, so_far, both, a, short)

making_short : length (statement_lines making) ≤ 25
unfolding statement_line digits
making_short = omega arith

ending_short : length (statement_lines ending) ≤ 23
unfolding statement_line
ending_short = omega arith

pub is_short : (number rows : ℕ) → rows < 2 ^ 16 → length (lines (printed (generated number rows))) < 2 ^ 32
is_short number rows small =
    let whole = ap (λ (z : List ℕ). length z) (whole_text number rows) in
    let front = codes "session 1\n" ++ statement_lines making in
    let inserts = statement_lines (inserts_to number rows rows) in
    let deletes = statement_lines (deletes_to rows) in
    let a = length-append (codes "session 1\n") (statement_lines making) in
    let b = length-append front inserts in
    let d = length-append (front ++ inserts) deletes in
    let e = length-append (front ++ inserts ++ deletes) (statement_lines ending) in
    let m = making_short in
    let n = ending_short in
    let i = inserts_short_to number rows rows small in
    let j = deletes_short_to rows small in
    let few = few_lines (printed (generated number rows)) in
    omega (arith, whole, a, b, d, e, m, n, i, j, few, small)

-- ---- what is read of it

pub reads : (number rows : ℕ) → rows < 2 ^ 16 → scripts_of ALL_FORMS (printed (generated number rows)) ≡ Ok (generated number rows)
unfolding generated
reads number rows small = printed_says ALL_FORMS (generated number rows) (in_grammar ALL_FORMS number rows small (record { built = refl; ready = refl; spelled = refl }))

pub same_script : (s t : Script) → ◌≡◌ {A = Result Script ScriptFault} (Ok s) (Ok t) → s ≡ t
same_script s t e = cc

pub never_both : (s : Script) (f : ScriptFault) → ◌≡◌ {A = Result Script ScriptFault} (Ok s) (Err f) → ⊥
never_both s f e = absurd (cc e)
