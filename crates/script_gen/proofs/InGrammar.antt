-- The generated script is in the grammar.
use Rattle.std.proofs.Common.{◌≡◌, ℕ, zero, suc, ◌+◌, ◌%◌, ◌<◌, ◌≤◌, ◌^◌, ◌||◌, Bool, true, false, cond, List, [], ◌∷◌, ◌++◌, length, Some, refl, sym, ◌∙◌, ap, ap₂, subst, arith, replicate, append_assoc, append-nil, codes, decimal, bytes_eq, le-leb}
use Rattle.std.proofs.lemmas.Fmt.{length-decimal-le}
use Rattle.std.proofs.lemmas.List.Folds.{list_any-append}
use Rattle.std.proofs.lemmas.Slice.Eq.{bytes_eq-Decides}
use Rattle.seg_words.proofs.Lemmas.{AllByRecursion, list_all, list_any, and_from, length-replicate, nat_tests}
use Rattle.seg_words.specs.Types.{MOST_SESSIONS, is_name, is_name_byte}
use Rattle.script_text.specs.declared.form.Forms.{Forms}
use Rattle.script_text.specs.declared.statement.Statement.{Statement}
use Rattle.script_text.specs.declared.statement.Statement.TheVariants as asks
use Rattle.script_text.specs.Pieces.{is_digit, is_text_byte, number_of}
use Rattle.script_text.specs.Spelled.{AreNew, IsScript, IsStatement, labels_in, labels_of}
use Rattle.script_text.proofs.ScheduleSaid.{all_weaker}
use Rattle.script_text.proofs.Spellings.{decimal_digits, number_says}
use Rattle.script_gen.specs.Drawn.{drawn, nth_number, row_of}
use Rattle.script_gen.specs.Generated.{commit_after, delete_of, deletes_at, deletes_to, ending, insert_of, inserts_to, label_of, making, statements_of}

-- ---- labels are names

digit_in_name : (b : ℕ) → is_digit b ≡ true → is_name_byte b ≡ true
digit_in_name b h = grind (arith, nat_tests)

pub label_is_name : (i : ℕ) → i < 2 ^ 16 → is_name (label_of i) ≡ true
label_is_name i small =
    let big : i < 2 ^ 64 = omega (arith, small) in
    let short : length (decimal i) ≤ 5 = length-decimal-le 5 i (omega arith) (omega (arith, small)) big in
    and_from _ _ (and_from _ _ (and_from _ _ (le-leb 1 (length (label_of i)) (omega arith)) (le-leb (length (label_of i)) 30 (omega (arith, short)))) refl)
    (all_weaker is_digit is_name_byte digit_in_name (decimal i) (decimal_digits i big))

-- ---- rows are texts

all_same : (p : ℕ → Bool) (n b : ℕ) → p b ≡ true → list_all p (replicate n b) ≡ true
all_same p zero b h = refl
all_same p (suc n) b h = and_from _ _ h (all_same p n b h)

letter_in_text : (k : ℕ) → k < 26 → is_text_byte (97 + k) ≡ true
letter_in_text k small = grind (arith, nat_tests)

pub row_length : (x : ℕ) → length (row_of x) ≡ 20 + drawn x % 61
unfolding row_of
row_length x = length-replicate (20 + drawn x % 61) (97 + drawn x % 26)

row_bytes : (x : ℕ) → list_all is_text_byte (row_of x) ≡ true
unfolding row_of
row_bytes x = all_same is_text_byte (20 + drawn x % 61) (97 + drawn x % 26) (letter_in_text (drawn x % 26) (omega arith))

-- ---- each statement

all_append : {A : Type 0} (P : A → Type 0) (xs ys : List A) → AllByRecursion P xs → AllByRecursion P ys → AllByRecursion P (xs ++ ys)
all_append P [] ys h k = k
all_append P (x ∷ xs) ys h k = (h.0, all_append P xs ys h.1 k)

abbrev AreStatements : Forms → List Statement → Type 0
AreStatements forms ss = AllByRecursion (IsStatement forms) ss

insert_is : (forms : Forms) (i x : ℕ) → i < 2 ^ 16 → IsStatement forms (insert_of i x)
insert_is forms i x small =
    let long = row_length x in
    record { built = refl; ready = refl; spelled = (refl, label_is_name i small, (omega (arith, long), omega (arith, long), row_bytes x)) }

delete_is : (forms : Forms) (i : ℕ) → i < 2 ^ 16 → IsStatement forms (delete_of i)
delete_is forms i small = record { built = refl; ready = refl; spelled = (refl, label_is_name i small) }

commits_are : (forms : Forms) (due : Bool) → AreStatements forms (cond due (asks.Commit ∷ []) [])
commits_are forms true = (record { built = refl; ready = refl; spelled = tt }, tt)
commits_are forms false = tt

deletes_are : (forms : Forms) (i : ℕ) (due : Bool) → i < 2 ^ 16 → AreStatements forms (cond due (delete_of i ∷ []) [])
deletes_are forms i true small = (delete_is forms i small, tt)
deletes_are forms i false small = tt

inserts_are_to : (forms : Forms) (number rows i : ℕ) → i < 2 ^ 16 → AreStatements forms (inserts_to number rows i)
inserts_are_to forms number rows zero small = tt
inserts_are_to forms number rows (suc i) small =
    all_append (IsStatement forms) (inserts_to number rows i) (insert_of (suc i) (nth_number number (suc i)) ∷ commit_after rows (suc i)) (inserts_are_to forms number rows i (omega (arith, small)))
    (insert_is forms (suc i) (nth_number number (suc i)) small, commits_are forms _)

deletes_are_to : (forms : Forms) (i : ℕ) → i < 2 ^ 16 → AreStatements forms (deletes_to i)
deletes_are_to forms zero small = tt
deletes_are_to forms (suc i) small = all_append (IsStatement forms) (deletes_to i) (deletes_at (suc i)) (deletes_are_to forms i (omega (arith, small))) (deletes_are forms (suc i) _ small)

statements_are : (forms : Forms) (number rows : ℕ) → rows < 2 ^ 16 → IsStatement forms (asks.Shrink (codes "g") false) → AreStatements forms (statements_of number rows)
statements_are forms number rows small shrink =
    let made : AreStatements forms making = (record { built = refl; ready = refl; spelled = (refl, omega arith) }, (record { built = refl; ready = refl; spelled = refl }, tt)) in
    let ended : AreStatements forms ending = (record { built = refl; ready = refl; spelled = tt }, (shrink, (record { built = refl; ready = refl; spelled = refl }, tt))) in
    let P = IsStatement forms in
    all_append P (making ++ inserts_to number rows rows ++ deletes_to rows) ending (all_append P (making ++ inserts_to number rows rows) (deletes_to rows) (all_append P making (inserts_to number rows rows) made (inserts_are_to forms number rows rows small)) (deletes_are_to forms rows small)) ended

-- ---- labels are new

abbrev labels_to : ℕ → List (List ℕ)
labels_to zero = []
labels_to (suc i) = labels_to i ++ label_of (suc i) ∷ []

labels_append : (xs ys : List Statement) → labels_of (xs ++ ys) ≡ labels_of xs ++ labels_of ys
labels_append [] ys = refl
labels_append (asks.Insert table label text ∷ xs) ys = ap (λ (ls : List (List ℕ)). label ∷ ls) (labels_append xs ys)
labels_append (asks.Table name pctfree ∷ xs) ys = labels_append xs ys
labels_append (asks.Movement table on ∷ xs) ys = labels_append xs ys
labels_append (asks.Update table target text ∷ xs) ys = labels_append xs ys
labels_append (asks.Delete table target ∷ xs) ys = labels_append xs ys
labels_append (asks.Commit ∷ xs) ys = labels_append xs ys
labels_append (asks.Rollback ∷ xs) ys = labels_append xs ys
labels_append (asks.Scan table ∷ xs) ys = labels_append xs ys
labels_append (asks.Shrink table compact ∷ xs) ys = labels_append xs ys
labels_append (asks.Usage table ∷ xs) ys = labels_append xs ys
labels_append (asks.Fix table block value ∷ xs) ys = labels_append xs ys
labels_append (asks.Repair table ∷ xs) ys = labels_append xs ys
labels_append (asks.Checkpoint ∷ xs) ys = labels_append xs ys

commits_bind_none : (due : Bool) → labels_of (cond due (asks.Commit ∷ []) []) ≡ []
commits_bind_none true = refl
commits_bind_none false = refl

deletes_bind_none : (i : ℕ) (due : Bool) → labels_of (cond due (delete_of i ∷ []) []) ≡ []
deletes_bind_none i true = refl
deletes_bind_none i false = refl

inserts_bind : (number rows i : ℕ) → labels_of (inserts_to number rows i) ≡ labels_to i
inserts_bind number rows zero = refl
inserts_bind number rows (suc i) =
    labels_append (inserts_to number rows i) (insert_of (suc i) (nth_number number (suc i)) ∷ commit_after rows (suc i))
    ∙ ap₂ (λ (a b : List (List ℕ)). a ++ label_of (suc i) ∷ b) (inserts_bind number rows i) (commits_bind_none _)

deletes_bind : (i : ℕ) → labels_of (deletes_to i) ≡ []
deletes_bind zero = refl
deletes_bind (suc i) = labels_append (deletes_to i) (deletes_at (suc i)) ∙ ap₂ (λ (a b : List (List ℕ)). a ++ b) (deletes_bind i) (deletes_bind_none (suc i) _)

all_bind : (number rows : ℕ) → labels_in (statements_of number rows ∷ []) ≡ labels_to rows
all_bind number rows =
    append-nil (labels_of (statements_of number rows))
    ∙ (labels_append (making ++ inserts_to number rows rows ++ deletes_to rows) ending
    ∙ (append-nil (labels_of (making ++ inserts_to number rows rows ++ deletes_to rows))
    ∙ (labels_append (making ++ inserts_to number rows rows) (deletes_to rows)
    ∙ (ap₂ (λ (a b : List (List ℕ)). a ++ b) (labels_append making (inserts_to number rows rows) ∙ inserts_bind number rows rows) (deletes_bind rows)
    ∙ append-nil (labels_to rows)))))

same_number : (i j : ℕ) → Some i ≡ Some j → i ≡ j
same_number i j e = cc

-- two numbers' labels are two
label_tells : (i j : ℕ) → i < 2 ^ 16 → j < 2 ^ 16 → label_of i ≡ label_of j → i ≡ j
label_tells i j small less e =
    let digits : decimal i ≡ decimal j = cc in
    let one = number_says (2 ^ 16) i (omega (arith, small)) (omega (arith, small)) in
    let two = number_says (2 ^ 16) j (omega (arith, less)) (omega (arith, less)) in
    same_number i j (sym one ∙ (ap (number_of (2 ^ 16)) digits ∙ two))

apart_when : (b : Bool) (P : Type 0) → (b ≡ true → P) → (P → ⊥) → b ≡ false
apart_when false P tells not = refl
apart_when true P tells not = absurd (not (tells refl))

other_label : (i j : ℕ) → i < 2 ^ 16 → j < i → bytes_eq (label_of i) (label_of j) ≡ false
other_label i j small less =
    apart_when (bytes_eq (label_of i) (label_of j)) (label_of i ≡ label_of j) (bytes_eq-Decides (label_of i) (label_of j)).0
    (λ e. let same = label_tells i j small (omega (arith, small, less)) e in omega (arith, same, less))

neither : (a b : Bool) → a ≡ false → b ≡ false → (a || b) ≡ false
neither true b h k = h
neither false b h k = k

none_before : (i j : ℕ) → i < 2 ^ 16 → j < i → list_any (bytes_eq (label_of i)) (labels_to j) ≡ false
none_before i zero small less = refl
none_before i (suc j) small less =
    list_any-append (bytes_eq (label_of i)) (labels_to j) (label_of (suc j) ∷ [])
    ∙ neither _ _ (none_before i j small (omega (arith, less))) (neither _ false (other_label i (suc j) small less) refl)

new_more : (before xs : List (List ℕ)) (l : List ℕ) → AreNew before xs → list_any (bytes_eq l) (before ++ xs) ≡ false → AreNew before (xs ++ l ∷ [])
new_more before [] l h k = (subst (λ (ls : List (List ℕ)). list_any (bytes_eq l) ls ≡ false) (append-nil before) k, tt)
new_more before (x ∷ xs) l h k = (h.0, new_more (before ++ x ∷ []) xs l h.1 (subst (λ (ls : List (List ℕ)). list_any (bytes_eq l) ls ≡ false) (sym (append_assoc before (x ∷ []) xs)) k))

are_new : (i : ℕ) → i < 2 ^ 16 → AreNew [] (labels_to i)
are_new zero small = tt
are_new (suc i) small = new_more [] (labels_to i) (label_of (suc i)) (are_new i (omega (arith, small))) (none_before (suc i) i small (omega arith))

-- ---- the script

room_for_one : (many : Bool) → 1 ≤ cond many MOST_SESSIONS 1
room_for_one true = omega arith
room_for_one false = omega arith

pub in_grammar : (forms : Forms) (number rows : ℕ) → rows < 2 ^ 16 → IsStatement forms (asks.Shrink (codes "g") false) → IsScript forms (record { sessions = statements_of number rows ∷ []; schedule = [] })
in_grammar forms number rows small shrink = record {
  few = room_for_one forms.sessions;
  statements = (statements_are forms number rows small shrink, tt);
  labels = subst (AreNew []) (sym (all_bind number rows)) (are_new rows small);
  turns = tt;
  placed = λ e. refl;
}
