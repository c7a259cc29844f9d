-- A statement that is read has a spelling, and is of the line's form.
use Rattle.std.proofs.Common.{◌≡◌, ℕ, suc, zero, ◌≤◌, ◌<◌, Bool, true, false, cond, List, [], ◌∷◌, ◌++◌, length, refl, sym, subst, arith, Option, Some, None, Result, Ok, Err, eqb, leb-true, ok_or, nat_le, option_and_then}
use Rattle.seg_words.specs.Types.{list_all, is_name}
use Rattle.script_text.specs.OwnTypes.{Statement, Label, Number, Form, Session, Table, Movement, Insert, Update, Delete, Commit, Rollback, Scan, Shrink, Usage, Fix, Repair, Checkpoint, Schedule, Why, NotAStatement, BadName, BadNumber, RowEmpty, RowTooLong}
use Rattle.script_text.specs.Pieces.{cut, number_of, ordinal_of, not_zero, is_word, last_word, is_number, value_of, is_text_byte}
use Rattle.script_text.specs.Rows.{◌>>=◌, row, row_with, row_alone, named, label_in, marked, numbered, labelled, target_of, text_of, switch_of, compact_of, one_name, table_of, movement_of, insert_of, update_of, delete_of, shrink_of, fix_block, fix_value, fix_with, fix_of}
use Rattle.script_text.specs.Spelled.{IsSpelled, IsTarget, IsText, form_of}
use Rattle.script_text.proofs.Cuts.{cut_joins, joined}
use Rattle.script_text.proofs.Spellings.{both_true, only_if}
use Rattle.script_text.specs.declared.statement.Statement.TheVariants as asks

-- ---- what each part of a row gives
-- where it is read, the value has the property
abbrev pub IfRead : {A : Type 0} → Result A Why → (A → Type 0) → Type 0
IfRead {A = A} r P = (x : A) → r ≡ Ok x → P x

pub step : {A B : Type 0} {P : A → Type 0} {Q : B → Type 0} {r : Result A Why} {f : A → Result B Why} → IfRead r P → ((a : A) → P a → IfRead (f a) Q) → IfRead (r >>= f) Q
step {r = Ok a} had next = next a (had a refl)
step {r = Err why} had next = λ x e. cc

pub done : {A : Type 0} (P : A → Type 0) (a : A) → P a → IfRead (Ok a) P
done P a h x e = let same : a ≡ x = cc in subst P same h

pub any : {A : Type 0} (r : Result A Why) → IfRead r (λ _. Unit {0})
any r = λ x e. tt

named_test : (b : Bool) (word : List ℕ) → is_name word ≡ b → IfRead (cond b (Ok word) (Err BadName)) (λ name. is_name name ≡ true)
named_test true word h x e = let same : word ≡ x = cc in let P : List ℕ → Type 0 = λ z. is_name z ≡ true in subst P same h
named_test false word h x e = cc

pub named_fits : (word : List ℕ) → IfRead (named word) (λ name. is_name name ≡ true)
named_fits word = named_test (is_name word) word refl

pub from_or : {A : Type 0} (o : Option A) (why : Why) (x : A) → ok_or o why ≡ Ok x → o ≡ Some x
from_or (Some a) why x h = cc
from_or None why x h = cc

pub number_within : (most n : ℕ) (digits : List ℕ) → number_of most digits ≡ Some n → n ≤ most
unfolding number_of
number_within most n digits h = within (is_number digits) h
  where
    within : (b : Bool) → cond b (cond (nat_le (value_of digits) most) (Some (value_of digits)) None) None ≡ Some n → n ≤ most
    within true k =
        let v = only_if (nat_le (value_of digits) most) (value_of digits) n k in
        let small = leb-true (value_of digits) most v.0 in
        omega (arith, v.1)
    within false k = cc

number_fits : (most : ℕ) (digits : List ℕ) → IfRead (ok_or (number_of most digits) BadNumber) (λ n. n ≤ most)
number_fits most digits x e = number_within most x digits (from_or (number_of most digits) BadNumber x e)

pub ordinal_within : (most n : ℕ) (digits : List ℕ) → ordinal_of most digits ≡ Some n → (0 < n) × (n ≤ most)
ordinal_within most n digits h = within (number_of most digits) refl h
  where
    nonzero : (m : ℕ) (b : Bool) → eqb m 0 ≡ b → cond b None (Some m) ≡ Some n → (0 < n) × (m ≡ n)
    nonzero m true e k = cc
    nonzero zero false e k = cc
    nonzero (suc m) false e k = let same : suc m ≡ n = cc in (omega (arith, same), same)

    within : (o : Option ℕ) → number_of most digits ≡ o → option_and_then not_zero o ≡ Some n → (0 < n) × (n ≤ most)
    within None e k = cc
    within (Some m) e k =
        let v = nonzero m (eqb m 0) refl k in
        let small = number_within most m digits e in
        (v.0, omega (arith, v.1))

numbered_fits : (digits : List ℕ) → IfRead (numbered digits) IsTarget
numbered_fits digits =
    step {P = λ n. (0 < n) × (n ≤ 281474976710656)} (λ x e. ordinal_within 281474976710656 x digits (from_or (ordinal_of 281474976710656 digits) BadNumber x e)) (λ n h. done IsTarget (Number n) h)

labelled_fits : (word : List ℕ) → IfRead (labelled word) IsTarget
labelled_fits word = step (named_fits word) (λ label h. done IsTarget (Label label) h)

pub chosen : {A : Type 0} {P : A → Type 0} (b : Bool) {r s : Result A Why} → IfRead r P → IfRead s P → IfRead (cond b r s) P
chosen true hr hs = hr
chosen false hr hs = hs

pub refused : {A : Type 0} (P : A → Type 0) (why : Why) → IfRead (Err why) P
refused P why x e = cc

target_fits : (word : List ℕ) → IfRead (target_of word) IsTarget
target_fits [] = refused _ NotAStatement
target_fits (b ∷ bs) = chosen (eqb b 64) (labelled_fits bs) (numbered_fits bs)

text_test : (b : Bool) (text : List ℕ) → nat_le (length text) 1800 ≡ b → 0 < length text → list_all is_text_byte text ≡ true → IfRead (cond b (Ok text) (Err RowTooLong)) IsText
text_test true text e some all = done IsText text (some, leb-true (length text) 1800 e, all)
text_test false text e some all = refused _ RowTooLong

text_fits : (text : List ℕ) → list_all is_text_byte text ≡ true → IfRead (text_of text) IsText
text_fits [] all = refused _ RowEmpty
text_fits (b ∷ bs) all = text_test (nat_le (length (b ∷ bs)) 1800) (b ∷ bs) refl (omega arith) all

-- ---- bytes behind a cut
abbrev pub AreTextBytes : Option (List ℕ) → Type 0
AreTextBytes None = Unit {0}
AreTextBytes (Some bytes) = list_all is_text_byte bytes ≡ true

after_all : (p : ℕ → Bool) (xs ys : List ℕ) → list_all p (xs ++ ys) ≡ true → list_all p ys ≡ true
after_all p [] ys h = h
after_all p (x ∷ xs) ys h = after_all p xs ys (both_true (p x) (list_all p (xs ++ ys)) h).1

pub bytes_behind : (bytes : List ℕ) → list_all is_text_byte bytes ≡ true → AreTextBytes (cut 32 bytes).1
bytes_behind bytes h = behind_cut (cut 32 bytes).0 (cut 32 bytes).1 (cut_joins 32 bytes)
  where
    behind_cut : (word : List ℕ) (o : Option (List ℕ)) → joined 32 (word, o) ≡ bytes → AreTextBytes o
    behind_cut word None e = tt
    behind_cut word (Some rest) e =
        let P : List ℕ → Type 0 = λ z. list_all is_text_byte z ≡ true in
        (both_true (is_text_byte 32) (list_all is_text_byte rest) (after_all is_text_byte word (32 ∷ rest) (subst P (sym e) h))).1

-- ---- rows
abbrev pub Fits : Form → Statement → Type 0
Fits form s = IsSpelled s × (form_of s ≡ form)

table_fits : (rest : List ℕ) → IfRead (table_of rest) (Fits Table)
unfolding table_of
table_fits rest =
    step (any (ok_or (last_word (cut 32 rest).1) NotAStatement)) (λ percent _. step (named_fits (cut 32 rest).0) (λ name h. step (number_fits 50 percent) (λ n small. done (Fits Table) (asks.Table name n) ((h, small), refl))))

movement_fits : (rest : List ℕ) → IfRead (movement_of rest) (Fits Movement)
unfolding movement_of
movement_fits rest = step (any (switch_of (cut 32 rest).1)) (λ on _. step (named_fits (cut 32 rest).0) (λ table h. done (Fits Movement) (asks.Movement table on) (h, refl)))

text_behind : (o : Option (List ℕ)) → AreTextBytes o → IfRead (ok_or o NotAStatement) (λ bytes. list_all is_text_byte bytes ≡ true)
text_behind None h = refused _ NotAStatement
text_behind (Some bytes) h = done (λ z. list_all is_text_byte z ≡ true) bytes h

insert_fits : (rest : List ℕ) → list_all is_text_byte rest ≡ true → IfRead (insert_of rest) (Fits Insert)
unfolding insert_of
insert_fits rest all =
    step (text_behind (cut 32 rest).1 (bytes_behind rest all)) (λ after all_after. step (text_behind (cut 32 after).1 (bytes_behind after all_after)) (λ bytes all_bytes.
    step (any (label_in (cut 32 after).0)) (λ word _. step (named_fits (cut 32 rest).0) (λ table h. step (named_fits word) (λ label l.
    step (text_fits bytes all_bytes) (λ text t. done (Fits Insert) (asks.Insert table label text) ((h, l, t), refl)))))))

update_fits : (rest : List ℕ) → list_all is_text_byte rest ≡ true → IfRead (update_of rest) (Fits Update)
unfolding update_of
update_fits rest all =
    step (text_behind (cut 32 rest).1 (bytes_behind rest all)) (λ after all_after. step (text_behind (cut 32 after).1 (bytes_behind after all_after)) (λ bytes all_bytes.
    step (any (marked (cut 32 after).0)) (λ word _. step (named_fits (cut 32 rest).0) (λ table h. step (target_fits word) (λ target l.
    step (text_fits bytes all_bytes) (λ text t. done (Fits Update) (asks.Update table target text) ((h, l, t), refl)))))))

delete_fits : (rest : List ℕ) → IfRead (delete_of rest) (Fits Delete)
unfolding delete_of
delete_fits rest =
    step (any (ok_or (last_word (cut 32 rest).1) NotAStatement)) (λ last _. step (any (marked last)) (λ word _. step (named_fits (cut 32 rest).0) (λ table h.
    step (target_fits word) (λ target l. done (Fits Delete) (asks.Delete table target) ((h, l), refl)))))

one_name_fits : (rest : List ℕ) → IfRead (one_name rest) (λ name. is_name name ≡ true)
one_name_fits rest = chosen (is_word rest) (named_fits rest) (refused _ NotAStatement)

shrink_fits : (rest : List ℕ) → IfRead (shrink_of rest) (Fits Shrink)
unfolding shrink_of
shrink_fits rest = step (any (compact_of (cut 32 rest).1)) (λ compact _. step (named_fits (cut 32 rest).0) (λ table h. done (Fits Shrink) (asks.Shrink table compact) (h, refl)))

fix_block_fits : (name digits : List ℕ) → IfRead (fix_block name digits) (Fits Fix)
fix_block_fits name digits = step (named_fits name) (λ table h. step (number_fits 4294967295 digits) (λ block small. done (Fits Fix) (asks.Fix table block None) ((h, small, tt), refl)))

fix_value_fits : (name digits last : List ℕ) → IfRead (fix_value name digits last) (Fits Fix)
fix_value_fits name digits last =
    step (named_fits name) (λ table h. step (number_fits 4294967295 digits) (λ block small. step (number_fits 4294967295 last) (λ value few. done (Fits Fix) (asks.Fix table block (Some value)) ((h, small, few), refl))))

fix_with_fits : (name digits : List ℕ) (last : Option (List ℕ)) → IfRead (fix_with name digits last) (Fits Fix)
fix_with_fits name digits None = fix_block_fits name digits
fix_with_fits name digits (Some last) = chosen (is_word last) (fix_value_fits name digits last) (refused _ NotAStatement)

fix_fits : (rest : List ℕ) → IfRead (fix_of rest) (Fits Fix)
unfolding fix_of
fix_fits rest = step (any (ok_or (cut 32 rest).1 NotAStatement)) (λ after _. fix_with_fits (cut 32 rest).0 (cut 32 after).0 (cut 32 after).1)

alone_fits : (form : Form) → IfRead (row_alone form) (Fits form)
alone_fits Commit = done (Fits Commit) asks.Commit (tt, refl)
alone_fits Rollback = done (Fits Rollback) asks.Rollback (tt, refl)
alone_fits Checkpoint = done (Fits Checkpoint) asks.Checkpoint (tt, refl)
alone_fits Session = refused _ NotAStatement
alone_fits Table = refused _ NotAStatement
alone_fits Movement = refused _ NotAStatement
alone_fits Insert = refused _ NotAStatement
alone_fits Update = refused _ NotAStatement
alone_fits Delete = refused _ NotAStatement
alone_fits Scan = refused _ NotAStatement
alone_fits Shrink = refused _ NotAStatement
alone_fits Usage = refused _ NotAStatement
alone_fits Fix = refused _ NotAStatement
alone_fits Repair = refused _ NotAStatement
alone_fits Schedule = refused _ NotAStatement

with_fits : (form : Form) (rest : List ℕ) → list_all is_text_byte rest ≡ true → IfRead (row_with form rest) (Fits form)
with_fits Session rest all = refused _ NotAStatement
with_fits Table rest all = table_fits rest
with_fits Movement rest all = movement_fits rest
with_fits Insert rest all = insert_fits rest all
with_fits Update rest all = update_fits rest all
with_fits Delete rest all = delete_fits rest
with_fits Commit rest all = refused _ NotAStatement
with_fits Rollback rest all = refused _ NotAStatement
with_fits Scan rest all = step (one_name_fits rest) (λ table h. done (Fits Scan) (asks.Scan table) (h, refl))
with_fits Shrink rest all = shrink_fits rest
with_fits Usage rest all = step (one_name_fits rest) (λ table h. done (Fits Usage) (asks.Usage table) (h, refl))
with_fits Fix rest all = fix_fits rest
with_fits Repair rest all = step (one_name_fits rest) (λ table h. done (Fits Repair) (asks.Repair table) (h, refl))
with_fits Checkpoint rest all = refused _ NotAStatement
with_fits Schedule rest all = refused _ NotAStatement

pub row_fits : (form : Form) (rest : Option (List ℕ)) → AreTextBytes rest → IfRead (row form rest) (Fits form)
row_fits form None all = alone_fits form
row_fits form (Some rest) all = with_fits form rest all
