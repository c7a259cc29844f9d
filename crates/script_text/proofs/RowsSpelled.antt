-- A line that is read as a statement is spelled by it.
use Rattle.std.proofs.Common.{◌≡◌, ℕ, ◌^◌, ◌<◌, ◌||◌, ◌⊎◌, Bool, true, false, cond, List, [], ◌∷◌, ◌++◌, length, refl, ap, sym, ◌∙◌, arith, Option, Some, None, Result, Ok, Err, eqb, eq-eqb, codes, inl, inr, eqb-true, true≢false, append-nil, decimal, bytes_eq, ok_or, nat_le, option_and_then}
use Rattle.std.proofs.lemmas.Slice.Eq.{bytes_eq-Decides}
use Rattle.seg_words.specs.Types.{is_name}
use Rattle.script_text.specs.OwnTypes.{Statement, Label, Number, Form, Session, Table, Movement, Insert, Update, Delete, Commit, Rollback, Scan, Shrink, Usage, Fix, Repair, Checkpoint, Schedule, Why, NotAStatement, BadName, BadNumber, RowTooLong, RowEmpty}
use Rattle.script_text.specs.Pieces.{cut, number_of, ordinal_of, not_zero, is_word, last_word}
use Rattle.script_text.specs.Rows.{row, row_with, row_alone, named, label_in, marked, numbered, labelled, target_of, text_of, switch_of, compact_of, one_name, table_of, movement_of, insert_of, update_of, delete_of, shrink_of, fix_block, fix_value, fix_with, fix_of}
use Rattle.script_text.specs.Spelled.{behind, switch_text, compact_text, target_text}
use Rattle.script_text.proofs.Cuts.{cut_joins, joined}
use Rattle.script_text.proofs.Spellings.{number_spells}
use Rattle.script_text.proofs.RowsFit.{IfRead, step, done, chosen, refused, from_or}
use Rattle.script_text.specs.declared.statement.Statement.TheVariants as asks

-- ---- what each part of a row tells of its bytes
abbrev Is : List ℕ → List ℕ → Type 0
Is word read = read ≡ word

named_is : (word : List ℕ) → IfRead (named word) (Is word)
named_is word = chosen (is_name word) (done (Is word) word refl) (refused _ BadName)

number_is : (most : ℕ) (digits : List ℕ) → most < 2 ^ 64 → IfRead (ok_or (number_of most digits) BadNumber) (λ n. digits ≡ decimal n)
number_is most digits big n e = number_spells most n digits big (from_or (number_of most digits) BadNumber n e)

text_is : (text : List ℕ) → IfRead (text_of text) (Is text)
text_is [] = refused _ RowEmpty
text_is (b ∷ bs) = chosen (nat_le (length (b ∷ bs)) 1800) (done (Is (b ∷ bs)) (b ∷ bs) refl) (refused _ RowTooLong)

-- the first word, a space, and the rest
cut_is : (rest : List ℕ) (o : Option (List ℕ)) → (cut 32 rest).1 ≡ o → IfRead (ok_or o NotAStatement) (λ after. rest ≡ (cut 32 rest).0 ++ 32 ∷ after)
cut_is rest None e = refused _ NotAStatement
cut_is rest (Some after) e = done (λ z. rest ≡ (cut 32 rest).0 ++ 32 ∷ z) after (sym (cut_joins 32 rest) ∙ ap (λ o. joined 32 ((cut 32 rest).0, o)) e)

after_is : (rest : List ℕ) → IfRead (ok_or (cut 32 rest).1 NotAStatement) (λ after. rest ≡ (cut 32 rest).0 ++ 32 ∷ after)
after_is rest = cut_is rest (cut 32 rest).1 refl

last_cut : (rest : List ℕ) (o : Option (List ℕ)) → (cut 32 rest).1 ≡ o → IfRead (ok_or (last_word o) NotAStatement) (λ last. rest ≡ (cut 32 rest).0 ++ 32 ∷ last)
last_cut rest None e = refused _ NotAStatement
last_cut rest (Some last) e = last_test (is_word last) (sym (cut_joins 32 rest) ∙ ap (λ o. joined 32 ((cut 32 rest).0, o)) e)
  where
    last_test : (b : Bool) → rest ≡ (cut 32 rest).0 ++ 32 ∷ last → IfRead (ok_or (cond b (Some last) None) NotAStatement) (λ z. rest ≡ (cut 32 rest).0 ++ 32 ∷ z)
    last_test true h = done (λ z. rest ≡ (cut 32 rest).0 ++ 32 ∷ z) last h
    last_test false h = refused _ NotAStatement

last_is : (rest : List ℕ) → IfRead (ok_or (last_word (cut 32 rest).1) NotAStatement) (λ last. rest ≡ (cut 32 rest).0 ++ 32 ∷ last)
last_is rest = last_cut rest (cut 32 rest).1 refl

label_is : (word : List ℕ) → IfRead (label_in word) (λ label. word ≡ 64 ∷ label)
label_is [] = refused _ NotAStatement
label_is (b ∷ bs) = label_test (eqb b 64) refl
  where
    label_test : (t : Bool) → eqb b 64 ≡ t → IfRead (cond t (Ok bs) (Err NotAStatement)) (λ label. (b ∷ bs) ≡ 64 ∷ label)
    label_test true e = done (λ label. (b ∷ bs) ≡ 64 ∷ label) bs (ap (λ z. z ∷ bs) (eqb-true b 64 e))
    label_test false e = refused _ NotAStatement

abbrev HasSign : List ℕ → Type 0
HasSign [] = ⊥
HasSign (b ∷ bs) = (b ≡ 64) ⊎ (b ≡ 35)

sign_of : (b : ℕ) (s t : Bool) → eqb b 64 ≡ s → eqb b 35 ≡ t → (s || t) ≡ true → (b ≡ 64) ⊎ (b ≡ 35)
sign_of b true t e f h = inl (eqb-true b 64 e)
sign_of b false true e f h = inr (eqb-true b 35 f)
sign_of b false false e f h = cc

abbrev IsMarked : List ℕ → List ℕ → Type 0
IsMarked word read = (read ≡ word) × HasSign read

marked_is : (word : List ℕ) → IfRead (marked word) (IsMarked word)
marked_is [] = refused _ NotAStatement
marked_is (b ∷ bs) = marked_test (eqb b 64 || eqb b 35) refl
  where
    marked_test : (t : Bool) → (eqb b 64 || eqb b 35) ≡ t → IfRead (cond t (Ok (b ∷ bs)) (Err NotAStatement)) (IsMarked (b ∷ bs))
    marked_test true e = done (IsMarked (b ∷ bs)) (b ∷ bs) (refl, sign_of b (eqb b 64) (eqb b 35) refl refl e)
    marked_test false e = refused _ NotAStatement

labelled_is : (label : List ℕ) → IfRead (labelled label) (λ t. target_text t ≡ 64 ∷ label)
labelled_is label = step (named_is label) (λ name e. done (λ t. target_text t ≡ 64 ∷ label) (Label name) (ap (λ z. 64 ∷ z) e))

ordinal_is : (digits : List ℕ) → IfRead (ok_or (ordinal_of 281474976710656 digits) BadNumber) (λ n. digits ≡ decimal n)
ordinal_is digits n e = from_number (number_of 281474976710656 digits) refl (from_or (ordinal_of 281474976710656 digits) BadNumber n e)
  where
    from_zero : (m : ℕ) (b : Bool) → cond b None (Some m) ≡ Some n → m ≡ n
    from_zero m true h = cc
    from_zero m false h = cc

    from_number : (o : Option ℕ) → number_of 281474976710656 digits ≡ o → option_and_then not_zero o ≡ Some n → digits ≡ decimal n
    from_number None e h = cc
    from_number (Some m) e h = number_spells 281474976710656 m digits (omega arith) e ∙ ap decimal (from_zero m (eqb m 0) h)

numbered_is : (digits : List ℕ) → IfRead (numbered digits) (λ t. target_text t ≡ 35 ∷ digits)
numbered_is digits = step (ordinal_is digits) (λ n e. done (λ t. target_text t ≡ 35 ∷ digits) (Number n) (ap (λ z. 35 ∷ z) (sym e)))

target_is : (word : List ℕ) → HasSign word → IfRead (target_of word) (λ t. target_text t ≡ word)
target_is [] h = absurd h
target_is (b ∷ bs) h = target_test (eqb b 64) refl h
  where
    target_test : (t : Bool) → eqb b 64 ≡ t → (b ≡ 64) ⊎ (b ≡ 35) → IfRead (cond t (labelled bs) (numbered bs)) (λ u. target_text u ≡ b ∷ bs)
    target_test true e s = λ u k. labelled_is bs u k ∙ ap (λ z. z ∷ bs) (sym (eqb-true b 64 e))
    target_test false e (inl a) = absurd (differs a)
      where
        differs : b ≡ 64 → ⊥
        differs x = true≢false (sym (eq-eqb b 64 x) ∙ e)
    target_test false e (inr a) = λ u k. numbered_is bs u k ∙ ap (λ z. z ∷ bs) (sym a)

-- ---- rows
abbrev Spells : List ℕ → Statement → Type 0
Spells rest s = behind s ≡ Some rest

same_bytes : (xs ys : List ℕ) → bytes_eq xs ys ≡ true → xs ≡ ys
same_bytes xs ys h = (bytes_eq-Decides xs ys).0 h

table_spells : (rest : List ℕ) → IfRead (table_of rest) (Spells rest)
unfolding table_of
table_spells rest =
    step (last_is rest) (λ percent e. step (named_is (cut 32 rest).0) (λ name n. step (number_is 50 percent (omega arith)) (λ p d.
    done (Spells rest) (asks.Table name p) (ap Some (ap (λ z. z ++ 32 ∷ decimal p) n ∙ ap (λ z. (cut 32 rest).0 ++ 32 ∷ z) (sym d) ∙ sym e)))))

switch_is : (rest : List ℕ) (o : Option (List ℕ)) → (cut 32 rest).1 ≡ o → IfRead (switch_of o) (λ on. rest ≡ (cut 32 rest).0 ++ 32 ∷ switch_text on)
switch_is rest None e = refused _ NotAStatement
switch_is rest (Some word) e = switch_test (bytes_eq word (codes "on")) (bytes_eq word (codes "off")) refl refl
  where
    whole : rest ≡ (cut 32 rest).0 ++ 32 ∷ word
    whole = sym (cut_joins 32 rest) ∙ ap (λ o. joined 32 ((cut 32 rest).0, o)) e

    switch_test : (a b : Bool) → bytes_eq word (codes "on") ≡ a → bytes_eq word (codes "off") ≡ b → IfRead (cond {A = Result Bool Why} a (Ok true) (cond b (Ok false) (Err NotAStatement))) (λ on. rest ≡ (cut 32 rest).0 ++ 32 ∷ switch_text on)
    switch_test true b f g = done (λ on. rest ≡ (cut 32 rest).0 ++ 32 ∷ switch_text on) true (whole ∙ ap (λ z. (cut 32 rest).0 ++ 32 ∷ z) (same_bytes word (codes "on") f))
    switch_test false true f g = done (λ on. rest ≡ (cut 32 rest).0 ++ 32 ∷ switch_text on) false (whole ∙ ap (λ z. (cut 32 rest).0 ++ 32 ∷ z) (same_bytes word (codes "off") g))
    switch_test false false f g = refused _ NotAStatement

movement_spells : (rest : List ℕ) → IfRead (movement_of rest) (Spells rest)
unfolding movement_of
movement_spells rest =
    step (switch_is rest (cut 32 rest).1 refl) (λ on e. step (named_is (cut 32 rest).0) (λ table n. done (Spells rest) (asks.Movement table on) (ap Some (ap (λ z. z ++ 32 ∷ switch_text on) n ∙ sym e))))

insert_spells : (rest : List ℕ) → IfRead (insert_of rest) (Spells rest)
unfolding insert_of
insert_spells rest =
    step (after_is rest) (λ after e. step (after_is after) (λ bytes f. step (label_is (cut 32 after).0) (λ word v. step (named_is (cut 32 rest).0) (λ table n. step (named_is word) (λ label l. step (text_is bytes) (λ text t.
    done (Spells rest) (asks.Insert table label text) (ap Some (
    ap (λ z. z ++ 32 ∷ 64 ∷ (label ++ 32 ∷ text)) n
    ∙ ap (λ z. (cut 32 rest).0 ++ 32 ∷ 64 ∷ (z ++ 32 ∷ text)) l
    ∙ ap (λ z. (cut 32 rest).0 ++ 32 ∷ 64 ∷ (word ++ 32 ∷ z)) t
    ∙ ap (λ z. (cut 32 rest).0 ++ 32 ∷ (z ++ 32 ∷ bytes)) (sym v)
    ∙ ap (λ z. (cut 32 rest).0 ++ 32 ∷ z) (sym f)
    ∙ sym e))))))))

update_spells : (rest : List ℕ) → IfRead (update_of rest) (Spells rest)
unfolding update_of
update_spells rest =
    step (after_is rest) (λ after e. step (after_is after) (λ bytes f. step (marked_is (cut 32 after).0) (λ word v. step (named_is (cut 32 rest).0) (λ table n. step (target_is word v.1) (λ target l. step (text_is bytes) (λ text t.
    done (Spells rest) (asks.Update table target text) (ap Some (
    ap (λ z. z ++ 32 ∷ (target_text target ++ 32 ∷ text)) n
    ∙ ap (λ z. (cut 32 rest).0 ++ 32 ∷ (z ++ 32 ∷ text)) (l ∙ v.0)
    ∙ ap (λ z. (cut 32 rest).0 ++ 32 ∷ ((cut 32 after).0 ++ 32 ∷ z)) t
    ∙ ap (λ z. (cut 32 rest).0 ++ 32 ∷ z) (sym f)
    ∙ sym e))))))))

delete_spells : (rest : List ℕ) → IfRead (delete_of rest) (Spells rest)
unfolding delete_of
delete_spells rest =
    step (last_is rest) (λ last e. step (marked_is last) (λ word v. step (named_is (cut 32 rest).0) (λ table n. step (target_is word v.1) (λ target l.
    done (Spells rest) (asks.Delete table target) (ap Some (ap (λ z. z ++ 32 ∷ target_text target) n ∙ ap (λ z. (cut 32 rest).0 ++ 32 ∷ z) (l ∙ v.0) ∙ sym e))))))

one_name_is : (rest : List ℕ) → IfRead (one_name rest) (Is rest)
one_name_is rest = chosen (is_word rest) (named_is rest) (refused _ NotAStatement)

compact_is : (rest : List ℕ) (o : Option (List ℕ)) → (cut 32 rest).1 ≡ o → IfRead (compact_of o) (λ compact. rest ≡ (cut 32 rest).0 ++ compact_text compact)
compact_is rest None e = done (λ compact. rest ≡ (cut 32 rest).0 ++ compact_text compact) false (sym (cut_joins 32 rest) ∙ ap (λ o. joined 32 ((cut 32 rest).0, o)) e ∙ sym (append-nil (cut 32 rest).0))
compact_is rest (Some word) e = compact_test (bytes_eq word (codes "compact")) refl
  where
    compact_test : (a : Bool) → bytes_eq word (codes "compact") ≡ a → IfRead (cond {A = Result Bool Why} a (Ok true) (Err NotAStatement)) (λ compact. rest ≡ (cut 32 rest).0 ++ compact_text compact)
    compact_test true f = done (λ compact. rest ≡ (cut 32 rest).0 ++ compact_text compact) true (sym (cut_joins 32 rest) ∙ ap (λ o. joined 32 ((cut 32 rest).0, o)) e ∙ ap (λ z. (cut 32 rest).0 ++ 32 ∷ z) (same_bytes word (codes "compact") f))
    compact_test false f = refused _ NotAStatement

shrink_spells : (rest : List ℕ) → IfRead (shrink_of rest) (Spells rest)
unfolding shrink_of
shrink_spells rest =
    step (compact_is rest (cut 32 rest).1 refl) (λ compact e. step (named_is (cut 32 rest).0) (λ table n. done (Spells rest) (asks.Shrink table compact) (ap Some (ap (λ z. z ++ compact_text compact) n ∙ sym e))))

fix_block_spells : (name digits : List ℕ) → IfRead (fix_block name digits) (Spells (name ++ 32 ∷ digits))
fix_block_spells name digits =
    step (named_is name) (λ table n. step (number_is 4294967295 digits (omega arith)) (λ block d.
    done (Spells (name ++ 32 ∷ digits)) (asks.Fix table block None) (ap Some (ap (λ z. z ++ 32 ∷ (decimal block ++ [])) n ∙ ap (λ z. name ++ 32 ∷ z) (append-nil (decimal block) ∙ sym d)))))

fix_value_spells : (name digits last : List ℕ) → IfRead (fix_value name digits last) (Spells (name ++ 32 ∷ (digits ++ 32 ∷ last)))
fix_value_spells name digits last =
    step (named_is name) (λ table n. step (number_is 4294967295 digits (omega arith)) (λ block d. step (number_is 4294967295 last (omega arith)) (λ value v.
    done (Spells (name ++ 32 ∷ (digits ++ 32 ∷ last))) (asks.Fix table block (Some value)) (ap Some (
    ap (λ z. z ++ 32 ∷ (decimal block ++ 32 ∷ decimal value)) n
    ∙ ap (λ z. name ++ 32 ∷ (z ++ 32 ∷ decimal value)) (sym d)
    ∙ ap (λ z. name ++ 32 ∷ (digits ++ 32 ∷ z)) (sym v))))))

fix_with_spells : (name digits : List ℕ) (o : Option (List ℕ)) → IfRead (fix_with name digits o) (Spells (name ++ 32 ∷ joined 32 (digits, o)))
fix_with_spells name digits None = fix_block_spells name digits
fix_with_spells name digits (Some last) = chosen (is_word last) (fix_value_spells name digits last) (refused _ NotAStatement)

fix_spells : (rest : List ℕ) → IfRead (fix_of rest) (Spells rest)
unfolding fix_of
fix_spells rest =
    step (after_is rest) (λ after e. λ s k. fix_with_spells (cut 32 rest).0 (cut 32 after).0 (cut 32 after).1 s k ∙ ap (λ z. Some ((cut 32 rest).0 ++ 32 ∷ z)) (cut_joins 32 after) ∙ ap Some (sym e))

alone_spells : (form : Form) → IfRead (row_alone form) (λ s. behind s ≡ None)
alone_spells Commit = done (λ s. behind s ≡ None) asks.Commit refl
alone_spells Rollback = done (λ s. behind s ≡ None) asks.Rollback refl
alone_spells Checkpoint = done (λ s. behind s ≡ None) asks.Checkpoint refl
alone_spells Session = refused _ NotAStatement
alone_spells Table = refused _ NotAStatement
alone_spells Movement = refused _ NotAStatement
alone_spells Insert = refused _ NotAStatement
alone_spells Update = refused _ NotAStatement
alone_spells Delete = refused _ NotAStatement
alone_spells Scan = refused _ NotAStatement
alone_spells Shrink = refused _ NotAStatement
alone_spells Usage = refused _ NotAStatement
alone_spells Fix = refused _ NotAStatement
alone_spells Repair = refused _ NotAStatement
alone_spells Schedule = refused _ NotAStatement

with_spells : (form : Form) (rest : List ℕ) → IfRead (row_with form rest) (Spells rest)
with_spells Session rest = refused _ NotAStatement
with_spells Table rest = table_spells rest
with_spells Movement rest = movement_spells rest
with_spells Insert rest = insert_spells rest
with_spells Update rest = update_spells rest
with_spells Delete rest = delete_spells rest
with_spells Commit rest = refused _ NotAStatement
with_spells Rollback rest = refused _ NotAStatement
with_spells Scan rest = step (one_name_is rest) (λ table e. done (Spells rest) (asks.Scan table) (ap Some e))
with_spells Shrink rest = shrink_spells rest
with_spells Usage rest = step (one_name_is rest) (λ table e. done (Spells rest) (asks.Usage table) (ap Some e))
with_spells Fix rest = fix_spells rest
with_spells Repair rest = step (one_name_is rest) (λ table e. done (Spells rest) (asks.Repair table) (ap Some e))
with_spells Checkpoint rest = refused _ NotAStatement
with_spells Schedule rest = refused _ NotAStatement

-- the statement of a line spells what stands behind the line's first word
pub row_spells : (form : Form) (rest : Option (List ℕ)) (s : Statement) → row form rest ≡ Ok s → behind s ≡ rest
row_spells form None s h = alone_spells form s h
row_spells form (Some rest) s h = with_spells form rest s h
