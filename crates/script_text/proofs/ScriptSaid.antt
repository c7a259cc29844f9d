-- A script that is printed is read as the same script.
use Rattle.std.proofs.Common.{◌≡◌, ℕ, suc, ◌+◌, ◌^◌, ◌≤◌, ◌<◌, ◌&&◌, ◌||◌, not, Bool, true, false, cond, List, [], ◌∷◌, ◌++◌, length, refl, ap, sym, subst, ◌∙◌, arith, Option, Some, Result, Ok, Err, eqb, eq-eqb, append_assoc, ne_eqb, append-nil, decimal}
use Rattle.seg_words.proofs.Lemmas.{nat_tests}
use Rattle.seg_words.specs.Types.{list_all, AllByRecursion}
use Rattle.std.specs.Str.Lines.{lines}
use Rattle.script_text.specs.OwnTypes.{Statement, Turns, Draft, Session, Schedule, Forms, Why, NotAStatement, SessionOrder, DuplicateLabel, ScriptFault}
use Rattle.script_text.specs.Pieces.{words, is_text_byte}
use Rattle.script_text.specs.Forms.{word_of}
use Rattle.script_text.specs.Rows.{row, ◌>>=◌}
use Rattle.script_text.specs.Schedule.{items_of}
use Rattle.script_text.specs.Script.{Script}
use Rattle.script_text.specs.Grammar.{nothing_read, closed_of, script_of, is_empty, is_just, next_session, session_of, schedule_of, bound, added, joined, rowed, worded, line_of, at_line, goes_on, read_lines, scripts_of}
use Rattle.script_text.specs.Spelled.{IsStatement, IsTurns, IsScript, AreNew, labels_of, labels_in, most_sessions, form_of, behind, with_rest, statement_line, statement_lines, session_line, session_lines, item_text, items_text, schedule_line, printed}
use Rattle.script_text.proofs.Spellings.{number_says}
use Rattle.script_text.proofs.RowsSaid.{row_says}
use Rattle.script_text.proofs.ScheduleSaid.{items_say, all_append, all_weaker, item_is, is_item_byte}
use Rattle.script_text.proofs.LinesSaid.{lines_front, statement_is_text, decimal_is_text, line_is}
use Rattle.script_text.proofs.ScriptFits.{most_few, AllSpelled}
use Rattle.script_text.specs.declared.statement.Statement.TheVariants as asks

-- ---- from lines to lines
-- reading leads from what was read, at these bytes, to what was read then, at those bytes
abbrev Leads : Forms → Draft → List ℕ → Draft → List ℕ → Type 0
Leads forms draft text now rest = (n : ℕ) → (m : ℕ) × (read_lines forms draft n (lines text) ≡ read_lines forms now m (lines rest))

leads_line : (forms : Forms) (draft now : Draft) (line rest : List ℕ) → list_all is_text_byte line ≡ true → line_of forms draft line ≡ Ok now → Leads forms draft (line ++ 10 ∷ rest) now rest
leads_line forms draft now line rest all h n = (
  n + 1,
  ap (read_lines forms draft n) (lines_front line rest all)
      ∙ ap (λ (r : Result Draft Why). goes_on (at_line (n + 1) r) (λ d. read_lines forms d (n + 1) (lines rest))) h,
)

leads_then : (forms : Forms) (a b c : Draft) (x y z : List ℕ) → Leads forms a x b y → Leads forms b y c z → Leads forms a x c z
leads_then forms a b c x y z h k n = let first = h n in let second = k first.0 in (second.0, first.1 ∙ second.1)

leads_same : (forms : Forms) (a : Draft) (x : List ℕ) → Leads forms a x a x
leads_same forms a x n = (n, refl)

-- ---- statements
-- what was read: so many sessions, of which the last one is open, and nothing scheduled
abbrev state : ℕ → List (List Statement) → List Statement → List (List ℕ) → Draft
state count closed current labels = record { count = count; closed = closed; current = current; labels = labels; schedule = [] }

bound_says : (labels : List (List ℕ)) (s : Statement) (rest : List (List ℕ)) → AreNew labels (labels_of (s ∷ []) ++ rest) → bound labels s ≡ Ok (labels ++ labels_of (s ∷ []))
bound_says labels (asks.Insert table label text) rest h = ap (λ b. cond {A = Result (List (List ℕ)) Why} b (Err DuplicateLabel) (Ok (labels ++ label ∷ []))) h.0
bound_says labels (asks.Table name pctfree) rest h = ap Ok (sym (append-nil labels))
bound_says labels (asks.Movement table on) rest h = ap Ok (sym (append-nil labels))
bound_says labels (asks.Update table target text) rest h = ap Ok (sym (append-nil labels))
bound_says labels (asks.Delete table target) rest h = ap Ok (sym (append-nil labels))
bound_says labels asks.Commit rest h = ap Ok (sym (append-nil labels))
bound_says labels asks.Rollback rest h = ap Ok (sym (append-nil labels))
bound_says labels (asks.Scan table) rest h = ap Ok (sym (append-nil labels))
bound_says labels (asks.Shrink table compact) rest h = ap Ok (sym (append-nil labels))
bound_says labels (asks.Usage table) rest h = ap Ok (sym (append-nil labels))
bound_says labels (asks.Fix table block value) rest h = ap Ok (sym (append-nil labels))
bound_says labels (asks.Repair table) rest h = ap Ok (sym (append-nil labels))
bound_says labels asks.Checkpoint rest h = ap Ok (sym (append-nil labels))

new_rest : (labels xs ys : List (List ℕ)) → AreNew labels (xs ++ ys) → AreNew (labels ++ xs) ys
new_rest labels [] ys h = let P : List (List ℕ) → Type 0 = λ z. AreNew z ys in subst P (sym (append-nil labels)) h
new_rest labels (x ∷ xs) ys h = let P : List (List ℕ) → Type 0 = λ z. AreNew z ys in subst P (append_assoc labels (x ∷ []) xs) (new_rest (labels ++ x ∷ []) xs ys h.1)

labels_cons : (s : Statement) (rest : List Statement) → labels_of (s ∷ rest) ≡ labels_of (s ∷ []) ++ labels_of rest
labels_cons (asks.Insert table label text) rest = refl
labels_cons (asks.Table name pctfree) rest = refl
labels_cons (asks.Movement table on) rest = refl
labels_cons (asks.Update table target text) rest = refl
labels_cons (asks.Delete table target) rest = refl
labels_cons asks.Commit rest = refl
labels_cons asks.Rollback rest = refl
labels_cons (asks.Scan table) rest = refl
labels_cons (asks.Shrink table compact) rest = refl
labels_cons (asks.Usage table) rest = refl
labels_cons (asks.Fix table block value) rest = refl
labels_cons (asks.Repair table) rest = refl
labels_cons asks.Checkpoint rest = refl

-- a line of a statement's form stands in a session
worded_says : (forms : Forms) (draft : Draft) (s : Statement) → eqb draft.count 0 ≡ false → draft.schedule ≡ [] → worded forms draft (Some (form_of s)) (behind s) ≡ rowed forms draft (form_of s) (behind s)
worded_says forms draft (asks.Insert table label text) some none = rw (some, none) refl
worded_says forms draft (asks.Table name pctfree) some none = rw (some, none) refl
worded_says forms draft (asks.Movement table on) some none = rw (some, none) refl
worded_says forms draft (asks.Update table target text) some none = rw (some, none) refl
worded_says forms draft (asks.Delete table target) some none = rw (some, none) refl
worded_says forms draft asks.Commit some none = rw (some, none) refl
worded_says forms draft asks.Rollback some none = rw (some, none) refl
worded_says forms draft (asks.Scan table) some none = rw (some, none) refl
worded_says forms draft (asks.Shrink table compact) some none = rw (some, none) refl
worded_says forms draft (asks.Usage table) some none = rw (some, none) refl
worded_says forms draft (asks.Fix table block value) some none = rw (some, none) refl
worded_says forms draft (asks.Repair table) some none = rw (some, none) refl
worded_says forms draft asks.Checkpoint some none = rw (some, none) refl

statement_says : (forms : Forms) (count : ℕ) (closed : List (List Statement)) (current : List Statement) (labels rest : List (List ℕ)) (s : Statement) → eqb count 0 ≡ false → IsStatement forms s → AreNew labels (labels_of (s ∷ []) ++ rest) → line_of forms (state count closed current labels) (with_rest (word_of (form_of s)) (behind s)) ≡ Ok (state count closed (current ++ s ∷ []) (labels ++ labels_of (s ∷ [])))
statement_says forms count closed current labels rest s some is new =
    line_is forms (state count closed current labels) (form_of s) (behind s) (statement_is_text s is.spelled)
    ∙ worded_says forms (state count closed current labels) s some refl
    ∙ ap (λ b. cond {A = Result Draft Why} b (row (form_of s) (behind s) >>= joined forms (state count closed current labels)) (Err NotAStatement)) is.built
    ∙ ap (λ (r : Result Statement Why). r >>= joined forms (state count closed current labels)) (row_says s is.spelled)
    ∙ ap (λ b. cond {A = Result Draft Why} b (added (state count closed current labels) s) (Err NotAStatement)) is.ready
    ∙ ap (λ (r : Result (List (List ℕ)) Why). r >>= λ now. Ok (state count closed (current ++ s ∷ []) now)) (bound_says labels s rest new)

spelled_line : (t : Statement) (ts : List Statement) (tail : List ℕ) → with_rest (word_of (form_of t)) (behind t) ++ 10 ∷ (statement_lines ts ++ tail) ≡ statement_lines (t ∷ ts) ++ tail
unfolding statement_line
spelled_line t ts tail = sym (append_assoc (with_rest (word_of (form_of t)) (behind t) ++ 10 ∷ []) (statement_lines ts) tail ∙ append_assoc (with_rest (word_of (form_of t)) (behind t)) (10 ∷ []) (statement_lines ts ++ tail))

statements_say : (forms : Forms) (count : ℕ) (closed : List (List Statement)) (current : List Statement) (labels more : List (List ℕ)) (session : List Statement) (rest : List ℕ) → eqb count 0 ≡ false → AllSpelled forms session → AreNew labels (labels_of session ++ more) → Leads forms (state count closed current labels) (statement_lines session ++ rest) (state count closed (current ++ session) (labels ++ labels_of session)) rest
statements_say forms count closed current labels more [] rest some all new =
    let P : Draft → Type 0 = λ d. Leads forms (state count closed current labels) rest d rest in
    subst P (ap (λ z. state count closed z (labels ++ [])) (sym (append-nil current))) (let Q : List (List ℕ) → Type 0 = λ z. Leads forms (state count closed current labels) rest (state count closed current z) rest in subst Q (sym (append-nil labels)) (leads_same forms (state count closed current labels) rest))
statements_say forms count closed current labels more (s ∷ session) rest some all new =
    let line = with_rest (word_of (form_of s)) (behind s) in
    let fresh : AreNew labels (labels_of (s ∷ []) ++ (labels_of session ++ more)) =
    let P : List (List ℕ) → Type 0 = AreNew labels in
    subst P (append_assoc (labels_of (s ∷ [])) (labels_of session) more) (subst P (ap (λ z. z ++ more) (labels_cons s session)) new) in
    let one = leads_line forms (state count closed current labels) (state count closed (current ++ s ∷ []) (labels ++ labels_of (s ∷ []))) line (statement_lines session ++ rest) (statement_is_text s all.0.spelled)
    (statement_says forms count closed current labels (labels_of session ++ more) s some all.0 fresh) in
    let others = statements_say forms count closed (current ++ s ∷ []) (labels ++ labels_of (s ∷ [])) more session rest some all.1 (new_rest labels (labels_of (s ∷ [])) (labels_of session ++ more) fresh) in
    let both = leads_then forms (state count closed current labels) (state count closed (current ++ s ∷ []) (labels ++ labels_of (s ∷ []))) (state count closed ((current ++ s ∷ []) ++ session) ((labels ++ labels_of (s ∷ [])) ++ labels_of session)) (line ++ 10 ∷ (statement_lines session ++ rest)) (statement_lines session ++ rest) rest one others in
    let text : line ++ 10 ∷ (statement_lines session ++ rest) ≡ statement_lines (s ∷ session) ++ rest = spelled_line s session rest in
    let labelled : (labels ++ labels_of (s ∷ [])) ++ labels_of session ≡ labels ++ labels_of (s ∷ session) = append_assoc labels (labels_of (s ∷ [])) (labels_of session) ∙ ap (λ z. labels ++ z) (sym (labels_cons s session)) in
    let T : List ℕ → Type 0 = λ z. Leads forms (state count closed current labels) z (state count closed (current ++ s ∷ session) (labels ++ labels_of (s ∷ session))) rest in
    let C : List Statement → Type 0 = λ z. Leads forms (state count closed current labels) (line ++ 10 ∷ (statement_lines session ++ rest)) (state count closed z (labels ++ labels_of (s ∷ session))) rest in
    let L : List (List ℕ) → Type 0 = λ z. Leads forms (state count closed current labels) (line ++ 10 ∷ (statement_lines session ++ rest)) (state count closed ((current ++ s ∷ []) ++ session) z) rest in
    subst T text (subst C (append_assoc current (s ∷ []) session) (subst L labelled both))

-- ---- sessions
session_is_text : (n : ℕ) → n < 2 ^ 64 → list_all is_text_byte (with_rest (word_of Session) (Some (decimal n))) ≡ true
session_is_text n big = decimal_is_text n big

session_says : (forms : Forms) (draft : Draft) → draft.schedule ≡ [] → draft.count + 1 ≤ 64 → (eqb draft.count 0 || forms.sessions) ≡ true → line_of forms draft (with_rest (word_of Session) (Some (decimal (draft.count + 1)))) ≡ Ok (next_session draft)
session_says forms draft none few may =
    let big : draft.count + 1 < 2 ^ 64 = omega (arith, few) in
    let same : is_just (Some (draft.count + 1)) (draft.count + 1) ≡ true = eq-eqb (draft.count + 1) (draft.count + 1) refl in
    line_is forms draft Session (Some (decimal (draft.count + 1))) (session_is_text (draft.count + 1) big)
    ∙ in_order (eqb draft.count 0)
    ∙ ap (λ (o : Option ℕ). cond {A = Result Draft Why} (is_just o (draft.count + 1)) (cond (eqb draft.count 0 || forms.sessions) (Ok (next_session draft)) (Err NotAStatement)) (Err SessionOrder)) (number_says 64 (draft.count + 1) few big)
    ∙ ap (λ b. cond {A = Result Draft Why} b (cond (eqb draft.count 0 || forms.sessions) (Ok (next_session draft)) (Err NotAStatement)) (Err SessionOrder)) same
    ∙ ap (λ b. cond {A = Result Draft Why} b (Ok (next_session draft)) (Err NotAStatement)) may
  where
    in_order : (b : Bool) → cond {A = Result Draft Why} (cond b false (not (is_empty draft.schedule) && true)) (Err SessionOrder) (session_of forms draft (Some (decimal (draft.count + 1)))) ≡ session_of forms draft (Some (decimal (draft.count + 1)))
    in_order true = refl
    in_order false = rw none refl

-- what is read when these sessions follow the open one
abbrev after_sessions : ℕ → List (List Statement) → List Statement → List (List ℕ) → List (List Statement) → Draft
after_sessions count closed current labels [] = state count closed current labels
after_sessions count closed current labels (session ∷ rest) = after_sessions (count + 1) (closed ++ current ∷ []) session (labels ++ labels_of session) rest

may_follow : (count : ℕ) (sessions : Bool) (more : ℕ) → 0 < count → count + suc more ≤ cond sessions 64 1 → (eqb count 0 || sessions) ≡ true
may_follow count true more some few = either_true (eqb count 0)
  where
    either_true : (b : Bool) → (b || true) ≡ true
    either_true true = refl
    either_true false = refl
may_follow count false more some few = absurd (omega (arith, some, few))

next_is : (count : ℕ) (closed : List (List Statement)) (current : List Statement) (labels : List (List ℕ)) → eqb count 0 ≡ false → next_session (state count closed current labels) ≡ state (count + 1) (closed ++ current ∷ []) [] labels
next_is count closed current labels some = ap (λ b. state (count + 1) (cond b closed (closed ++ current ∷ [])) [] labels) some

-- one session more, and its statements
session_more : (forms : Forms) (draft : Draft) (closed : List (List Statement)) (labels more : List (List ℕ)) (session : List Statement) (rest : List ℕ) → draft.schedule ≡ [] → draft.count + 1 ≤ 64 → (eqb draft.count 0 || forms.sessions) ≡ true → next_session draft ≡ state (draft.count + 1) closed [] labels → AllSpelled forms session → AreNew labels (labels_of session ++ more) → Leads forms draft (session_line (draft.count + 1) ++ (statement_lines session ++ rest)) (state (draft.count + 1) closed session (labels ++ labels_of session)) rest
unfolding session_line
session_more forms draft closed labels more session rest none few may next all new =
    let line = with_rest (word_of Session) (Some (decimal (draft.count + 1))) in
    let big : draft.count + 1 < 2 ^ 64 = omega (arith, few) in
    let nonzero : eqb (draft.count + 1) 0 ≡ false = ne_eqb (draft.count + 1) 0 (λ z. absurd (omega (arith, z))) in
    let head = leads_line forms draft (state (draft.count + 1) closed [] labels) line (statement_lines session ++ rest) (session_is_text (draft.count + 1) big) (session_says forms draft none few may ∙ ap Ok next) in
    let tail = statements_say forms (draft.count + 1) closed [] labels more session rest nonzero all new in
    let both = leads_then forms draft (state (draft.count + 1) closed [] labels) (state (draft.count + 1) closed session (labels ++ labels_of session)) (line ++ 10 ∷ (statement_lines session ++ rest)) (statement_lines session ++ rest) rest head tail in
    let P : List ℕ → Type 0 = λ z. Leads forms draft z (state (draft.count + 1) closed session (labels ++ labels_of session)) rest in
    subst P (sym (append_assoc line (10 ∷ []) (statement_lines session ++ rest))) both

sessions_say : (forms : Forms) (count : ℕ) (closed : List (List Statement)) (current : List Statement) (labels : List (List ℕ)) (sessions : List (List Statement)) (rest : List ℕ) → 0 < count → count + length sessions ≤ most_sessions forms → AllByRecursion (AllSpelled forms) sessions → AreNew labels (labels_in sessions) → Leads forms (state count closed current labels) (session_lines (count + 1) sessions ++ rest) (after_sessions count closed current labels sessions) rest
sessions_say forms count closed current labels [] rest some few all new = leads_same forms (state count closed current labels) rest
sessions_say forms count closed current labels (session ∷ sessions) rest some few all new =
    let draft = state count closed current labels in
    let nonzero : eqb count 0 ≡ false = ne_eqb count 0 (λ z. absurd (omega (arith, z, some))) in
    let most = most_few forms.sessions in
    let tail = session_lines (count + 1 + 1) sessions ++ rest in
    let one = session_more forms draft (closed ++ current ∷ []) labels (labels_in sessions) session tail refl (omega (arith, few, most)) (may_follow count forms.sessions (length sessions) some few) (next_is count closed current labels nonzero) all.0 new in
    let others = sessions_say forms (count + 1) (closed ++ current ∷ []) session (labels ++ labels_of session) sessions rest (omega arith) (omega (arith, few)) all.1 (new_rest labels (labels_of session) (labels_in sessions) new) in
    let both = leads_then forms draft (state (count + 1) (closed ++ current ∷ []) session (labels ++ labels_of session)) (after_sessions count closed current labels (session ∷ sessions)) (session_line (count + 1) ++ (statement_lines session ++ tail)) tail rest one others in
    let P : List ℕ → Type 0 = λ z. Leads forms draft z (after_sessions count closed current labels (session ∷ sessions)) rest in
    let text : session_line (count + 1) ++ (statement_lines session ++ tail) ≡ session_lines (count + 1) (session ∷ sessions) ++ rest =
    ap (λ z. session_line (count + 1) ++ z) (sym (append_assoc (statement_lines session) (session_lines (count + 1 + 1) sessions) rest)) ∙ sym (append_assoc (session_line (count + 1)) (statement_lines session ++ session_lines (count + 1 + 1) sessions) rest) in
    subst P text both

-- what is read then: the same sessions, and nothing scheduled
sessions_after : (count : ℕ) (closed : List (List Statement)) (current : List Statement) (labels : List (List ℕ)) (sessions : List (List Statement)) → 0 < count → (closed_of (after_sessions count closed current labels sessions) ≡ closed ++ current ∷ sessions) × (eqb (after_sessions count closed current labels sessions).count 0 ≡ false) × ((after_sessions count closed current labels sessions).count ≡ count + length sessions) × ((after_sessions count closed current labels sessions).schedule ≡ [])
sessions_after count closed current labels [] some =
    let nonzero : eqb count 0 ≡ false = ne_eqb count 0 (λ z. absurd (omega (arith, z, some))) in
    (ap (λ b. cond b closed (closed ++ current ∷ [])) nonzero, nonzero, omega arith, refl)
sessions_after count closed current labels (session ∷ sessions) some =
    let h = sessions_after (count + 1) (closed ++ current ∷ []) session (labels ++ labels_of session) sessions (omega arith) in
    (h.0 ∙ append_assoc closed (current ∷ []) (session ∷ sessions), h.1, omega (arith, h.2), h.3)

-- ---- the schedule
pub items_are_text : (forms : Forms) (sessions : ℕ) (schedule : List Turns) → sessions ≤ 64 → AllByRecursion (IsTurns forms sessions) schedule → list_all is_text_byte (items_text schedule) ≡ true
items_are_text forms sessions [] few h = refl
items_are_text forms sessions (turns ∷ rest) few h =
    all_append is_text_byte (item_text turns) (items_text rest) (all_weaker is_item_byte is_text_byte item_text_byte (item_text turns) (item_is forms sessions turns few h.0).bytes) (items_are_text forms sessions rest few h.1)
  where
    item_text_byte : (b : ℕ) → is_item_byte b ≡ true → is_text_byte b ≡ true
    item_text_byte b k = grind (arith, nat_tests)

schedule_says : (forms : Forms) (draft : Draft) (turns : Turns) (rest : List Turns) → eqb draft.count 0 ≡ false → draft.schedule ≡ [] → draft.count ≤ 64 → AllByRecursion (IsTurns forms draft.count) (turns ∷ rest) → line_of forms draft (with_rest (word_of Schedule) (Some (item_text turns ++ items_text rest))) ≡ Ok (record draft { schedule = turns ∷ rest })
schedule_says forms draft turns rest some none few h =
    line_is forms draft Schedule (Some (item_text turns ++ items_text rest)) (items_are_text forms draft.count (turns ∷ rest) few h)
    ∙ ap (λ b. cond {A = Result Draft Why} (cond b true (not (is_empty draft.schedule) && false)) (Err SessionOrder) scheduled) some
    ∙ ap (λ (z : List Turns). cond {A = Result Draft Why} (not (is_empty z) && false) (Err SessionOrder) scheduled) none
    ∙ ap (λ b. cond {A = Result Draft Why} b (items_of forms draft.schedule draft.count (words (item_text turns ++ items_text rest)) >>= λ schedule. Ok (record draft { schedule = schedule })) (Err NotAStatement)) h.0.built
    ∙ ap (λ (r : Result (List Turns) Why). r >>= λ schedule. Ok (record draft { schedule = schedule })) (items_say forms draft.count draft.schedule turns rest few h.0 h.1 ∙ ap (λ z. Ok (z ++ turns ∷ rest)) none)
  where
    scheduled : Result Draft Why
    scheduled = schedule_of forms draft (Some (item_text turns ++ items_text rest))

-- ---- scripts
-- the sessions of a script, and then its schedule
schedule_after : (forms : Forms) (draft : Draft) (schedule : List Turns) → eqb draft.count 0 ≡ false → draft.schedule ≡ [] → draft.count ≤ 64 → AllByRecursion (IsTurns forms draft.count) schedule → Leads forms draft (schedule_line schedule) (record draft { schedule = schedule }) []
schedule_after forms draft [] some none few h = λ n. (n, ap (λ (z : List Turns). read_lines forms (record draft { schedule = z }) n []) none)
schedule_after forms draft (turns ∷ rest) some none few h =
    leads_line forms draft (record draft { schedule = turns ∷ rest }) (with_rest (word_of Schedule) (Some (item_text turns ++ items_text rest))) [] (items_are_text forms draft.count (turns ∷ rest) few h) (schedule_says forms draft turns rest some none few h)

script_says : (forms : Forms) (sessions : List (List Statement)) (schedule : List Turns) → IsScript forms (record { sessions = sessions; schedule = schedule }) → scripts_of forms (session_lines 1 sessions ++ schedule_line schedule) ≡ Ok (record { sessions = sessions; schedule = schedule })
script_says forms [] [] h = refl
script_says forms [] (turns ∷ rest) h = let none : turns ∷ rest ≡ [] = h.placed refl in cc
script_says forms (session ∷ sessions) schedule h =
    let most = most_few forms.sessions in
    let last = after_sessions 1 [] session (labels_of session) sessions in
    let end = sessions_after 1 [] session (labels_of session) sessions (omega arith) in
    let many : last.count ≤ 64 = omega (arith, end.2, h.few, most) in
    let T : ℕ → Type 0 = λ n. AllByRecursion (IsTurns forms n) schedule in
    let counted : suc (length sessions) ≡ last.count = omega (arith, end.2) in
    let turns = subst T counted h.turns in
    let tail = session_lines 2 sessions ++ schedule_line schedule in
    let first = session_more forms nothing_read [] [] (labels_in sessions) session tail refl (omega arith) refl refl h.statements.0 h.labels in
    let others = sessions_say forms 1 [] session (labels_of session) sessions (schedule_line schedule) (omega arith) (omega (arith, h.few)) h.statements.1 (new_rest [] (labels_of session) (labels_in sessions) h.labels) in
    let planned = schedule_after forms last schedule end.1 end.3 many turns in
    let text : session_line 1 ++ (statement_lines session ++ tail) ≡ session_lines 1 (session ∷ sessions) ++ schedule_line schedule =
    ap (λ z. session_line 1 ++ z) (sym (append_assoc (statement_lines session) (session_lines 2 sessions) (schedule_line schedule))) ∙ sym (append_assoc (session_line 1) (statement_lines session ++ session_lines 2 sessions) (schedule_line schedule)) in
    let all = leads_then forms nothing_read (state 1 [] session (labels_of session)) (record last { schedule = schedule }) (session_line 1 ++ (statement_lines session ++ tail)) tail [] first (leads_then forms (state 1 [] session (labels_of session)) last (record last { schedule = schedule }) tail (schedule_line schedule) [] others planned) in
    ap (λ z. scripts_of forms z) (sym text)
    ∙ ap (λ (r : Result Draft ScriptFault). goes_on r (λ draft. Ok (script_of draft))) (all 0).1
    ∙ ap (λ z. Ok (record { sessions = z; schedule = schedule })) end.0

-- what is printed is read as the same
pub printed_says : (forms : Forms) (script : Script) → IsScript forms script → scripts_of forms (printed script) ≡ Ok script
unfolding printed
printed_says forms script h = script_says forms script.sessions script.schedule h
