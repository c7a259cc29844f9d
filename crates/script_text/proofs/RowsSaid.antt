-- What is spelled behind a first word is read as the statement.
use Rattle.std.proofs.Common.{◌≡◌, ℕ, ◌^◌, ◌≤◌, ◌<◌, Bool, true, false, List, [], ◌∷◌, ◌++◌, refl, arith, Some, None, Ok, eqb, codes, ne_eqb, append-nil, decimal}
use Rattle.seg_words.specs.Types.{is_name}
use Rattle.script_text.specs.OwnTypes.{Statement, Label, Number}
use Rattle.script_text.specs.Rows.{row, table_of, movement_of, insert_of, update_of, delete_of, shrink_of, fix_of, numbered}
use Rattle.script_text.specs.Spelled.{IsSpelled, IsText, form_of, behind}
use Rattle.script_text.proofs.Spellings.{cut_name, name_is_word, cut_decimal, decimal_is_word, number_says, text_says}
use Rattle.script_text.specs.declared.statement.Statement.TheVariants as asks

table_says : (name : List ℕ) (n : ℕ) → is_name name ≡ true → n ≤ 50 → table_of (name ++ 32 ∷ decimal n) ≡ Ok (asks.Table name n)
unfolding table_of
table_says name n h small =
    let big : n < 2 ^ 64 = omega arith in
    rw (cut_name name (decimal n) h, decimal_is_word n big, h, number_says 50 n small big) refl

movement_says : (table : List ℕ) (on : Bool) → is_name table ≡ true → row (form_of (asks.Movement table on)) (behind (asks.Movement table on)) ≡ Ok (asks.Movement table on)
unfolding movement_of
movement_says table true h = rw (cut_name table (codes "on") h, h) refl
movement_says table false h = rw (cut_name table (codes "off") h, h) refl

insert_says : (table label text : List ℕ) → is_name table ≡ true → is_name label ≡ true → IsText text → insert_of (table ++ 32 ∷ 64 ∷ (label ++ 32 ∷ text)) ≡ Ok (asks.Insert table label text)
unfolding insert_of
insert_says table label text h l t =
    rw (cut_name table (64 ∷ (label ++ 32 ∷ text)) h, cut_name label text l, h, l, text_says text t) refl

update_label_says : (table label text : List ℕ) → is_name table ≡ true → is_name label ≡ true → IsText text → update_of (table ++ 32 ∷ 64 ∷ (label ++ 32 ∷ text)) ≡ Ok (asks.Update table (Label label) text)
unfolding update_of
update_label_says table label text h l t =
    rw (cut_name table (64 ∷ (label ++ 32 ∷ text)) h, cut_name label text l, h, l, text_says text t) refl

numbered_says : (n : ℕ) → 0 < n → n ≤ 281474976710656 → numbered (decimal n) ≡ Ok (Number n)
numbered_says n some few =
    let big : n < 2 ^ 64 = omega arith in
    let nonzero : eqb n 0 ≡ false = ne_eqb n 0 (λ e. absurd (omega (arith, e))) in
    rw (number_says 281474976710656 n few big, nonzero) refl

update_number_says : (table : List ℕ) (n : ℕ) (text : List ℕ) → is_name table ≡ true → 0 < n → n ≤ 281474976710656 → IsText text → update_of (table ++ 32 ∷ 35 ∷ (decimal n ++ 32 ∷ text)) ≡ Ok (asks.Update table (Number n) text)
unfolding update_of
update_number_says table n text h some few t =
    let big : n < 2 ^ 64 = omega arith in
    rw (cut_name table (35 ∷ (decimal n ++ 32 ∷ text)) h, cut_decimal n text big, h, numbered_says n some few, text_says text t) refl

delete_label_says : (table label : List ℕ) → is_name table ≡ true → is_name label ≡ true → delete_of (table ++ 32 ∷ 64 ∷ label) ≡ Ok (asks.Delete table (Label label))
unfolding delete_of
delete_label_says table label h l = rw (cut_name table (64 ∷ label) h, name_is_word label l, h, l) refl

delete_number_says : (table : List ℕ) (n : ℕ) → is_name table ≡ true → 0 < n → n ≤ 281474976710656 → delete_of (table ++ 32 ∷ 35 ∷ decimal n) ≡ Ok (asks.Delete table (Number n))
unfolding delete_of
delete_number_says table n h some few =
    let big : n < 2 ^ 64 = omega arith in
    rw (cut_name table (35 ∷ decimal n) h, decimal_is_word n big, h, numbered_says n some few) refl

shrink_says : (table : List ℕ) (compact : Bool) → is_name table ≡ true → row (form_of (asks.Shrink table compact)) (behind (asks.Shrink table compact)) ≡ Ok (asks.Shrink table compact)
unfolding shrink_of
shrink_says table true h = rw (cut_name table (codes "compact") h, h) refl
shrink_says table false h = rw (append-nil table, name_is_word table h, h) refl

fix_block_says : (table : List ℕ) (block : ℕ) → is_name table ≡ true → block ≤ 4294967295 → fix_of (table ++ 32 ∷ (decimal block ++ [])) ≡ Ok (asks.Fix table block None)
unfolding fix_of
fix_block_says table block h small =
    let big : block < 2 ^ 64 = omega arith in
    rw (append-nil (decimal block), cut_name table (decimal block) h, decimal_is_word block big, h, number_says 4294967295 block small big) refl

fix_value_says : (table : List ℕ) (block value : ℕ) → is_name table ≡ true → block ≤ 4294967295 → value ≤ 4294967295 → fix_of (table ++ 32 ∷ (decimal block ++ 32 ∷ decimal value)) ≡ Ok (asks.Fix table block (Some value))
unfolding fix_of
fix_value_says table block value h small few =
    let big : block < 2 ^ 64 = omega arith in
    let wide : value < 2 ^ 64 = omega arith in
    rw (cut_name table (decimal block ++ 32 ∷ decimal value) h, cut_decimal block (decimal value) big, decimal_is_word value wide, h, number_says 4294967295 block small big, number_says 4294967295 value few wide) refl

pub row_says : (s : Statement) → IsSpelled s → row (form_of s) (behind s) ≡ Ok s
row_says (asks.Table name n) h = table_says name n h.0 h.1
row_says (asks.Movement table on) h = movement_says table on h
row_says (asks.Insert table label text) h = insert_says table label text h.0 h.1 h.2
row_says (asks.Update table (Label label) text) h = update_label_says table label text h.0 h.1 h.2
row_says (asks.Update table (Number n) text) h = update_number_says table n text h.0 h.1.0 h.1.1 h.2
row_says (asks.Delete table (Label label)) h = delete_label_says table label h.0 h.1
row_says (asks.Delete table (Number n)) h = delete_number_says table n h.0 h.1.0 h.1.1
row_says asks.Commit h = refl
row_says asks.Rollback h = refl
row_says (asks.Scan table) h = rw (name_is_word table h, h) refl
row_says (asks.Shrink table compact) h = shrink_says table compact h
row_says (asks.Usage table) h = rw (name_is_word table h, h) refl
row_says (asks.Fix table block None) h = fix_block_says table block h.0 h.1
row_says (asks.Fix table block (Some value)) h = fix_value_says table block value h.0 h.1 h.2
row_says (asks.Repair table) h = rw (name_is_word table h, h) refl
row_says asks.Checkpoint h = refl
