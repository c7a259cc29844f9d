-- The lines of a printed script, one by one.
use Rattle.std.proofs.Common.{◌≡◌, ℕ, suc, zero, ◌-◌, ◌^◌, ◌<◌, Bool, true, false, List, [], ◌∷◌, ◌++◌, length, get_or, refl, ap, sym, ◌∙◌, arith, Option, Some, None, ne_eqb, true≢false, decimal}
use Rattle.seg_words.proofs.Lemmas.{nat_tests}
use Rattle.seg_words.specs.Types.{list_all, is_name, is_name_byte}
use Rattle.std.specs.Str.Lines.{lines, strip_carriage_return}
use Rattle.script_text.specs.OwnTypes.{Statement, Target, Label, Number, Draft, Form, Session, Table, Movement, Insert, Update, Delete, Commit, Rollback, Scan, Shrink, Usage, Fix, Repair, Checkpoint, Schedule, Forms}
use Rattle.script_text.specs.Pieces.{cut, is_text_byte, is_digit}
use Rattle.script_text.specs.Forms.{word_of, form_of as form_named}
use Rattle.script_text.specs.Grammar.{is_passed_over, worded, line_of}
use Rattle.script_text.specs.Spelled.{IsSpelled, IsTarget, IsValue, form_of, behind, with_rest, switch_text, target_text, compact_text, value_text}
use Rattle.script_text.proofs.Cuts.{lines_at}
use Rattle.script_text.proofs.Spellings.{both_true, cut_front, name_bytes, decimal_digits}
use Rattle.script_text.proofs.ScheduleSaid.{all_append, all_weaker}
use Rattle.script_text.specs.declared.statement.Statement.TheVariants as asks

-- ---- lines of text bytes
text_byte_at : (bytes : List ℕ) (i : ℕ) → list_all is_text_byte bytes ≡ true → i < length bytes → get_or bytes i 0 ≡ 13 → ⊥
text_byte_at [] i all lt e = absurd (omega arith)
text_byte_at (b ∷ bs) zero all lt e = true≢false (sym (both_true (is_text_byte b) (list_all is_text_byte bs) all).0 ∙ ap is_text_byte e)
text_byte_at (b ∷ bs) (suc i) all lt e = text_byte_at bs i (both_true (is_text_byte b) (list_all is_text_byte bs) all).1 (omega arith) e

strip_test : (line : List ℕ) → (get_or line (length line - 1) 0 ≡ 13 → ⊥) → strip_carriage_return line ≡ line
strip_test line ne = rw (ne_eqb (get_or line (length line - 1) 0) 13 ne) refl

strip_none : (line : List ℕ) → list_all is_text_byte line ≡ true → strip_carriage_return line ≡ line
strip_none [] all = refl
strip_none (b ∷ bs) all = strip_test (b ∷ bs) (λ e. text_byte_at (b ∷ bs) (length (b ∷ bs) - 1) all (omega arith) e)

-- a line of text bytes is one line, whatever follows its LF
pub lines_front : (line rest : List ℕ) → list_all is_text_byte line ≡ true → lines (line ++ 10 ∷ rest) ≡ line ∷ lines rest
lines_front line rest all =
    lines_at (line ++ 10 ∷ rest) line rest (cut_front is_text_byte 10 line rest all refl) ∙ ap (λ (z : List ℕ). z ∷ lines rest) (strip_none line all)

-- ---- what is printed is text
name_text : (b : ℕ) → is_name_byte b ≡ true → is_text_byte b ≡ true
name_text b h = grind (arith, nat_tests)

digit_text : (b : ℕ) → is_digit b ≡ true → is_text_byte b ≡ true
digit_text b h = grind (arith, nat_tests)

pub name_is_text : (name : List ℕ) → is_name name ≡ true → list_all is_text_byte name ≡ true
name_is_text name h = all_weaker is_name_byte is_text_byte name_text name (name_bytes name h)

pub decimal_is_text : (n : ℕ) → n < 2 ^ 64 → list_all is_text_byte (decimal n) ≡ true
decimal_is_text n big = all_weaker is_digit is_text_byte digit_text (decimal n) (decimal_digits n big)

target_is_text : (target : Target) → IsTarget target → list_all is_text_byte (target_text target) ≡ true
target_is_text (Label label) h = name_is_text label h
target_is_text (Number row) h = decimal_is_text row (omega (arith, h.1))

value_is_text : (value : Option ℕ) → IsValue value → list_all is_text_byte (value_text value) ≡ true
value_is_text None h = refl
value_is_text (Some value) h = decimal_is_text value (omega (arith, h))

compact_is_text : (compact : Bool) → list_all is_text_byte (compact_text compact) ≡ true
compact_is_text true = refl
compact_is_text false = refl

switch_is_text : (on : Bool) → list_all is_text_byte (switch_text on) ≡ true
switch_is_text true = refl
switch_is_text false = refl

abbrev joins : (xs ys : List ℕ) → list_all is_text_byte xs ≡ true → list_all is_text_byte ys ≡ true → list_all is_text_byte (xs ++ ys) ≡ true
joins xs ys h k = all_append is_text_byte xs ys h k

pub statement_is_text : (s : Statement) → IsSpelled s → list_all is_text_byte (with_rest (word_of (form_of s)) (behind s)) ≡ true
statement_is_text (asks.Table name n) h = joins name (32 ∷ decimal n) (name_is_text name h.0) (decimal_is_text n (omega (arith, h.1)))
statement_is_text (asks.Movement table on) h = joins table (32 ∷ switch_text on) (name_is_text table h) (switch_is_text on)
statement_is_text (asks.Insert table label text) h = joins table (32 ∷ 64 ∷ (label ++ 32 ∷ text)) (name_is_text table h.0) (joins label (32 ∷ text) (name_is_text label h.1) h.2.2)
statement_is_text (asks.Update table target text) h = joins table (32 ∷ (target_text target ++ 32 ∷ text)) (name_is_text table h.0) (joins (target_text target) (32 ∷ text) (target_is_text target h.1) h.2.2)
statement_is_text (asks.Delete table target) h = joins table (32 ∷ target_text target) (name_is_text table h.0) (target_is_text target h.1)
statement_is_text asks.Commit h = refl
statement_is_text asks.Rollback h = refl
statement_is_text (asks.Scan table) h = name_is_text table h
statement_is_text (asks.Shrink table compact) h = joins table (compact_text compact) (name_is_text table h) (compact_is_text compact)
statement_is_text (asks.Usage table) h = name_is_text table h
statement_is_text (asks.Fix table block value) h = joins table (32 ∷ (decimal block ++ value_text value)) (name_is_text table h.0) (joins (decimal block) (value_text value) (decimal_is_text block (omega (arith, h.1))) (value_is_text value h.2))
statement_is_text (asks.Repair table) h = name_is_text table h
statement_is_text asks.Checkpoint h = refl

-- ---- the words of a line
pub named_again : (form : Form) → form_named (word_of form) ≡ Some form
unfolding form_named
named_again Session = refl
named_again Table = refl
named_again Movement = refl
named_again Insert = refl
named_again Update = refl
named_again Delete = refl
named_again Commit = refl
named_again Rollback = refl
named_again Scan = refl
named_again Shrink = refl
named_again Usage = refl
named_again Fix = refl
named_again Repair = refl
named_again Checkpoint = refl
named_again Schedule = refl

pub cut_word : (form : Form) (rest : Option (List ℕ)) → cut 32 (with_rest (word_of form) rest) ≡ (word_of form, rest)
cut_word Session None = refl
cut_word Session (Some rest) = refl
cut_word Table None = refl
cut_word Table (Some rest) = refl
cut_word Movement None = refl
cut_word Movement (Some rest) = refl
cut_word Insert None = refl
cut_word Insert (Some rest) = refl
cut_word Update None = refl
cut_word Update (Some rest) = refl
cut_word Delete None = refl
cut_word Delete (Some rest) = refl
cut_word Commit None = refl
cut_word Commit (Some rest) = refl
cut_word Rollback None = refl
cut_word Rollback (Some rest) = refl
cut_word Scan None = refl
cut_word Scan (Some rest) = refl
cut_word Shrink None = refl
cut_word Shrink (Some rest) = refl
cut_word Usage None = refl
cut_word Usage (Some rest) = refl
cut_word Fix None = refl
cut_word Fix (Some rest) = refl
cut_word Repair None = refl
cut_word Repair (Some rest) = refl
cut_word Checkpoint None = refl
cut_word Checkpoint (Some rest) = refl
cut_word Schedule None = refl
cut_word Schedule (Some rest) = refl

pub not_passed : (form : Form) (rest : Option (List ℕ)) → is_passed_over (with_rest (word_of form) rest) ≡ false
not_passed Session None = refl
not_passed Session (Some rest) = refl
not_passed Table None = refl
not_passed Table (Some rest) = refl
not_passed Movement None = refl
not_passed Movement (Some rest) = refl
not_passed Insert None = refl
not_passed Insert (Some rest) = refl
not_passed Update None = refl
not_passed Update (Some rest) = refl
not_passed Delete None = refl
not_passed Delete (Some rest) = refl
not_passed Commit None = refl
not_passed Commit (Some rest) = refl
not_passed Rollback None = refl
not_passed Rollback (Some rest) = refl
not_passed Scan None = refl
not_passed Scan (Some rest) = refl
not_passed Shrink None = refl
not_passed Shrink (Some rest) = refl
not_passed Usage None = refl
not_passed Usage (Some rest) = refl
not_passed Fix None = refl
not_passed Fix (Some rest) = refl
not_passed Repair None = refl
not_passed Repair (Some rest) = refl
not_passed Checkpoint None = refl
not_passed Checkpoint (Some rest) = refl
not_passed Schedule None = refl
not_passed Schedule (Some rest) = refl

-- a line of a form is read as that form
pub line_is : (forms : Forms) (draft : Draft) (form : Form) (rest : Option (List ℕ)) → list_all is_text_byte (with_rest (word_of form) rest) ≡ true → line_of forms draft (with_rest (word_of form) rest) ≡ worded forms draft (Some form) rest
unfolding line_of
line_is forms draft form rest all = rw (not_passed form rest, all, cut_word form rest, named_again form) refl
