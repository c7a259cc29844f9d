-- Each script that is read has a spelling: what was read so far has one after each line.
use Rattle.std.proofs.Common.{◌≡◌, ℕ, ◌+◌, ◌≤◌, ◌&&◌, ◌||◌, not, Bool, true, false, cond, List, [], ◌∷◌, ◌++◌, length, refl, ap, sym, subst, ◌∙◌, arith, Option, Some, None, Result, Ok, Err, eqb, append_assoc, length-append, eqb-true, ne_eqb, true≢false, append-nil, bytes_eq}
use Rattle.seg_words.specs.Types.{list_all, list_any, AllByRecursion}
use Rattle.std.specs.Str.Lines.{lines}
use Rattle.script_text.specs.OwnTypes.{Statement, Turns, Draft, Form, Session, Table, Movement, Insert, Update, Delete, Commit, Rollback, Scan, Shrink, Usage, Fix, Repair, Checkpoint, Schedule, Forms, ALL_FORMS, Why, BadByte, SessionOrder, NotAStatement, DuplicateLabel, ScriptFault}
use Rattle.script_text.specs.Pieces.{cut, words, number_of, is_text_byte}
use Rattle.script_text.specs.Forms.{is_open, is_ready, form_of as form_named}
use Rattle.script_text.specs.Rows.{row, ◌>>=◌}
use Rattle.script_text.specs.Schedule.{items_of}
use Rattle.script_text.specs.Script.{Script}
use Rattle.script_text.specs.Grammar.{nothing_read, closed_of, script_of, is_passed_over, is_empty, is_out_of_order, is_just, next_session, session_of, schedule_of, bound, added, joined, rowed, formed, worded, line_of, at_line, goes_on, read_lines, scripts_of}
use Rattle.script_text.specs.Spelled.{IsStatement, IsSpelled, IsTurns, IsScript, AreNew, labels_of, labels_in, most_sessions, form_of}
use Rattle.script_text.proofs.RowsFit.{IfRead, step, done, chosen, refused, row_fits, AreTextBytes, bytes_behind, number_within}
use Rattle.script_text.proofs.ScheduleSaid.{items_fit}
use Rattle.script_text.specs.declared.statement.Statement.TheVariants as asks

abbrev pub AllSpelled : Forms → List Statement → Type 0
AllSpelled forms session = AllByRecursion (IsStatement forms) session

-- what is true of what was read so far
pub record IsDraft (forms : Forms) (draft : Draft) : Type 0 where
  pub few : draft.count ≤ most_sessions forms
  pub closed : AllByRecursion (AllSpelled forms) draft.closed
  pub current : AllSpelled forms draft.current
  pub count : length (closed_of draft) ≡ draft.count
  pub bound : draft.labels ≡ labels_in (closed_of draft)
  pub labels : AreNew [] draft.labels
  pub turns : AllByRecursion (IsTurns forms draft.count) draft.schedule
  pub placed : draft.count ≡ 0 → draft.schedule ≡ []

-- ---- lists
all_push : {A : Type 0} (P : A → Type 0) (xs : List A) (x : A) → AllByRecursion P xs → P x → AllByRecursion P (xs ++ x ∷ [])
all_push P [] x h p = (p, tt)
all_push P (y ∷ ys) x h p = (h.0, all_push P ys x h.1 p)

labels_push : (session : List Statement) (s : Statement) → labels_of (session ++ s ∷ []) ≡ labels_of session ++ labels_of (s ∷ [])
labels_push [] s = refl
labels_push (asks.Table name pctfree ∷ rest) s = labels_push rest s
labels_push (asks.Movement table on ∷ rest) s = labels_push rest s
labels_push (asks.Insert table label text ∷ rest) s = ap (λ z. label ∷ z) (labels_push rest s)
labels_push (asks.Update table target text ∷ rest) s = labels_push rest s
labels_push (asks.Delete table target ∷ rest) s = labels_push rest s
labels_push (asks.Commit ∷ rest) s = labels_push rest s
labels_push (asks.Rollback ∷ rest) s = labels_push rest s
labels_push (asks.Scan table ∷ rest) s = labels_push rest s
labels_push (asks.Shrink table compact ∷ rest) s = labels_push rest s
labels_push (asks.Usage table ∷ rest) s = labels_push rest s
labels_push (asks.Fix table block value ∷ rest) s = labels_push rest s
labels_push (asks.Repair table ∷ rest) s = labels_push rest s
labels_push (asks.Checkpoint ∷ rest) s = labels_push rest s

pub labels_append : (xs ys : List (List Statement)) → labels_in (xs ++ ys) ≡ labels_in xs ++ labels_in ys
labels_append [] ys = refl
labels_append (x ∷ xs) ys = ap (λ z. labels_of x ++ z) (labels_append xs ys) ∙ sym (append_assoc (labels_of x) (labels_in xs) (labels_in ys))

pub labels_last : (xs : List (List Statement)) (x : List Statement) → labels_in (xs ++ x ∷ []) ≡ labels_in xs ++ labels_of x
labels_last xs x = labels_append xs (x ∷ []) ∙ ap (λ z. labels_in xs ++ z) (append-nil (labels_of x))

new_push : (before labels : List (List ℕ)) (label : List ℕ) → AreNew before labels → list_any (bytes_eq label) (before ++ labels) ≡ false → AreNew before (labels ++ label ∷ [])
new_push before [] label h free = (ap (list_any (bytes_eq label)) (sym (append-nil before)) ∙ free, tt)
new_push before (l ∷ ls) label h free = (h.0, new_push (before ++ l ∷ []) ls label h.1 (ap (list_any (bytes_eq label)) (append_assoc before (l ∷ []) ls) ∙ free))

-- ---- what was read, with its sessions
pub closed_some : (draft : Draft) → eqb draft.count 0 ≡ false → closed_of draft ≡ draft.closed ++ draft.current ∷ []
closed_some draft h = ap (λ b. cond b draft.closed (draft.closed ++ draft.current ∷ [])) h

all_sessions : (forms : Forms) (draft : Draft) (b : Bool) → eqb draft.count 0 ≡ b → IsDraft forms draft → AllByRecursion (AllSpelled forms) (closed_of draft)
all_sessions forms draft true e h =
    let P : List (List Statement) → Type 0 = AllByRecursion (AllSpelled forms) in
    subst P (sym (ap (λ t. cond t draft.closed (draft.closed ++ draft.current ∷ [])) e)) h.closed
all_sessions forms draft false e h =
    let P : List (List Statement) → Type 0 = AllByRecursion (AllSpelled forms) in
    subst P (sym (closed_some draft e)) (all_push (AllSpelled forms) draft.closed draft.current h.closed h.current)

pub sessions_fit : (forms : Forms) (draft : Draft) → IsDraft forms draft → AllByRecursion (AllSpelled forms) (closed_of draft)
sessions_fit forms draft h = all_sessions forms draft (eqb draft.count 0) refl h

-- ---- a statement more
abbrev Bound : List (List ℕ) → Statement → List (List ℕ) → Type 0
Bound labels s now = (now ≡ labels ++ labels_of (s ∷ [])) × AreNew [] now

label_test : (labels : List (List ℕ)) (table label text : List ℕ) (b : Bool) → list_any (bytes_eq label) labels ≡ b → AreNew [] labels → IfRead (cond {A = Result (List (List ℕ)) Why} b (Err DuplicateLabel) (Ok (labels ++ label ∷ []))) (Bound labels (asks.Insert table label text))
label_test labels table label text true e h = refused _ DuplicateLabel
label_test labels table label text false e h = done (Bound labels (asks.Insert table label text)) (labels ++ label ∷ []) (refl, new_push [] labels label h e)

same_labels : (labels : List (List ℕ)) (s : Statement) → labels_of (s ∷ []) ≡ [] → AreNew [] labels → IfRead (Ok labels) (Bound labels s)
same_labels labels s none h = done (Bound labels s) labels (sym (append-nil labels) ∙ ap (λ z. labels ++ z) (sym none), h)

bound_fits : (labels : List (List ℕ)) (s : Statement) → AreNew [] labels → IfRead (bound labels s) (Bound labels s)
bound_fits labels (asks.Insert table label text) h = label_test labels table label text (list_any (bytes_eq label) labels) refl h
bound_fits labels (asks.Table name pctfree) h = same_labels labels (asks.Table name pctfree) refl h
bound_fits labels (asks.Movement table on) h = same_labels labels (asks.Movement table on) refl h
bound_fits labels (asks.Update table target text) h = same_labels labels (asks.Update table target text) refl h
bound_fits labels (asks.Delete table target) h = same_labels labels (asks.Delete table target) refl h
bound_fits labels asks.Commit h = same_labels labels asks.Commit refl h
bound_fits labels asks.Rollback h = same_labels labels asks.Rollback refl h
bound_fits labels (asks.Scan table) h = same_labels labels (asks.Scan table) refl h
bound_fits labels (asks.Shrink table compact) h = same_labels labels (asks.Shrink table compact) refl h
bound_fits labels (asks.Usage table) h = same_labels labels (asks.Usage table) refl h
bound_fits labels (asks.Fix table block value) h = same_labels labels (asks.Fix table block value) refl h
bound_fits labels (asks.Repair table) h = same_labels labels (asks.Repair table) refl h
bound_fits labels asks.Checkpoint h = same_labels labels asks.Checkpoint refl h

-- the sessions with a statement more in the last
statement_more : (forms : Forms) (draft : Draft) (s : Statement) (now : List (List ℕ)) → IsDraft forms draft → IsStatement forms s → eqb draft.count 0 ≡ false → Bound draft.labels s now → IsDraft forms (record draft { current = draft.current ++ s ∷ []; labels = now })
statement_more forms draft s now h is some b =
    let before = closed_some draft some in
    let after : closed_of (record draft { current = draft.current ++ s ∷ []; labels = now }) ≡ draft.closed ++ (draft.current ++ s ∷ []) ∷ [] = closed_some (record draft { current = draft.current ++ s ∷ []; labels = now }) some in
    let counted : length (draft.closed ++ draft.current ∷ []) ≡ draft.count = ap length (sym before) ∙ h.count in
    let long : length (draft.closed ++ (draft.current ++ s ∷ []) ∷ []) ≡ length (draft.closed ++ draft.current ∷ []) = length-append draft.closed ((draft.current ++ s ∷ []) ∷ []) ∙ sym (length-append draft.closed (draft.current ∷ [])) in
    record {
      few = h.few;
      closed = h.closed;
      current = all_push (IsStatement forms) draft.current s h.current is;
      count = ap length after ∙ long ∙ counted;
      bound = b.0 ∙ ap (λ z. z ++ labels_of (s ∷ [])) (h.bound ∙ ap labels_in before ∙ labels_last draft.closed draft.current)
          ∙ append_assoc (labels_in draft.closed) (labels_of draft.current) (labels_of (s ∷ []))
          ∙ ap (λ z. labels_in draft.closed ++ z) (sym (labels_push draft.current s))
          ∙ sym (labels_last draft.closed (draft.current ++ s ∷ [])) ∙ ap labels_in (sym after);
      labels = b.1;
      turns = h.turns;
      placed = h.placed;
    }

added_fits : (forms : Forms) (draft : Draft) (s : Statement) → IsDraft forms draft → IsStatement forms s → eqb draft.count 0 ≡ false → IfRead (added draft s) (IsDraft forms)
added_fits forms draft s h is some =
    step (bound_fits draft.labels s h.labels) (λ now b. done (IsDraft forms) (record draft { current = draft.current ++ s ∷ []; labels = now }) (statement_more forms draft s now h is some b))

joined_test : (forms : Forms) (draft : Draft) (s : Statement) (b : Bool) → is_ready forms s ≡ b → IsDraft forms draft → is_open forms (form_of s) ≡ true → IsSpelled s → eqb draft.count 0 ≡ false → IfRead (cond b (added draft s) (Err NotAStatement)) (IsDraft forms)
joined_test forms draft s true e h built spelled some = added_fits forms draft s h (record { built = built; ready = e; spelled = spelled }) some
joined_test forms draft s false e h built spelled some = refused _ NotAStatement

joined_fits : (forms : Forms) (draft : Draft) (s : Statement) → IsDraft forms draft → is_open forms (form_of s) ≡ true → IsSpelled s → eqb draft.count 0 ≡ false → IfRead (joined forms draft s) (IsDraft forms)
joined_fits forms draft s h built spelled some = joined_test forms draft s (is_ready forms s) refl h built spelled some

rowed_test : (forms : Forms) (draft : Draft) (form : Form) (rest : Option (List ℕ)) (b : Bool) → is_open forms form ≡ b → IsDraft forms draft → eqb draft.count 0 ≡ false → AreTextBytes rest → IfRead (cond b (row form rest >>= joined forms draft) (Err NotAStatement)) (IsDraft forms)
rowed_test forms draft form rest true e h some all =
    step (row_fits form rest all) (λ s fits. joined_fits forms draft s h (ap (is_open forms) fits.1 ∙ e) fits.0 some)
rowed_test forms draft form rest false e h some all = refused _ NotAStatement

rowed_fits : (forms : Forms) (draft : Draft) (form : Form) (rest : Option (List ℕ)) → IsDraft forms draft → eqb draft.count 0 ≡ false → AreTextBytes rest → IfRead (rowed forms draft form rest) (IsDraft forms)
rowed_fits forms draft form rest h some all = rowed_test forms draft form rest (is_open forms form) refl h some all

-- ---- a session more
most_some : (b : Bool) → 1 ≤ cond b 64 1
most_some true = omega arith
most_some false = omega arith

pub most_few : (b : Bool) → cond b 64 1 ≤ 64
most_few true = omega arith
most_few false = omega arith

next_few : (count : ℕ) (zero_count sessions : Bool) → eqb count 0 ≡ zero_count → (zero_count || sessions) ≡ true → count + 1 ≤ 64 → count + 1 ≤ cond sessions 64 1
next_few count true sessions e h small = let none = eqb-true count 0 e in let some = most_some sessions in omega (arith, none, some)
next_few count false true e h small = small
next_few count false false e h small = cc

next_fits : (forms : Forms) (draft : Draft) → IsDraft forms draft → draft.schedule ≡ [] → draft.count + 1 ≤ most_sessions forms → IsDraft forms (next_session draft)
next_fits forms draft h none few =
    let nonzero : eqb (draft.count + 1) 0 ≡ false = ne_eqb (draft.count + 1) 0 (λ z. absurd (omega (arith, z))) in
    let after : closed_of (next_session draft) ≡ closed_of draft ++ [] ∷ [] = closed_some (next_session draft) nonzero in
    let P : List Turns → Type 0 = AllByRecursion (IsTurns forms (draft.count + 1)) in
    let long : length (closed_of draft ++ [] ∷ []) ≡ length (closed_of draft) + 1 = length-append (closed_of draft) ([] ∷ []) in
    record {
      few = few;
      closed = sessions_fit forms draft h;
      current = tt;
      count = ap length after ∙ long ∙ ap (λ n. n + 1) h.count;
      bound = h.bound ∙ sym (labels_last (closed_of draft) [] ∙ append-nil (labels_in (closed_of draft))) ∙ ap labels_in (sym after);
      labels = h.labels;
      turns = subst P (sym none) tt;
      placed = λ z. absurd (omega (arith, z));
    }

just_some : (o : Option ℕ) (n : ℕ) → is_just o n ≡ true → o ≡ Some n
just_some None n h = cc
just_some (Some m) n h = ap Some (eqb-true m n h)

session_test : (forms : Forms) (draft : Draft) (digits : List ℕ) (b d : Bool) → is_just (number_of 64 digits) (draft.count + 1) ≡ b → (eqb draft.count 0 || forms.sessions) ≡ d → IsDraft forms draft → draft.schedule ≡ [] → IfRead (cond {A = Result Draft Why} b (cond d (Ok (next_session draft)) (Err NotAStatement)) (Err SessionOrder)) (IsDraft forms)
session_test forms draft digits true true e k h none =
    let small = number_within 64 (draft.count + 1) digits (just_some (number_of 64 digits) (draft.count + 1) e) in
    done (IsDraft forms) (next_session draft) (next_fits forms draft h none (next_few draft.count (eqb draft.count 0) forms.sessions refl k small))
session_test forms draft digits true false e k h none = refused _ NotAStatement
session_test forms draft digits false d e k h none = refused _ SessionOrder

session_fits : (forms : Forms) (draft : Draft) (rest : Option (List ℕ)) → IsDraft forms draft → draft.schedule ≡ [] → IfRead (session_of forms draft rest) (IsDraft forms)
session_fits forms draft None h none = refused _ SessionOrder
session_fits forms draft (Some digits) h none = session_test forms draft digits (is_just (number_of 64 digits) (draft.count + 1)) (eqb draft.count 0 || forms.sessions) refl refl h none

-- ---- a schedule line more
scheduled_fits : (forms : Forms) (draft : Draft) (schedule : List Turns) → IsDraft forms draft → eqb draft.count 0 ≡ false → AllByRecursion (IsTurns forms draft.count) schedule → IsDraft forms (record draft { schedule = schedule })
scheduled_fits forms draft schedule h some turns = record {
  few = h.few;
  closed = h.closed;
  current = h.current;
  count = h.count;
  bound = h.bound;
  labels = h.labels;
  turns = turns;
  placed = λ z. absurd (true≢false (ap (λ n. eqb n 0) (sym z) ∙ some));
}

schedule_test : (forms : Forms) (draft : Draft) (items : List ℕ) (b : Bool) → forms.schedule ≡ b → IsDraft forms draft → eqb draft.count 0 ≡ false → IfRead (cond b (items_of forms draft.schedule draft.count (words items) >>= λ schedule. Ok (record draft { schedule = schedule })) (Err NotAStatement)) (IsDraft forms)
schedule_test forms draft items true e h some =
    let most = most_few forms.sessions in
    step (items_fit forms draft.count draft.schedule (words items) (omega (arith, h.few, most)) e h.turns) (λ schedule turns. done (IsDraft forms) (record draft { schedule = schedule }) (scheduled_fits forms draft schedule h some turns))
schedule_test forms draft items false e h some = refused _ NotAStatement

schedule_fits : (forms : Forms) (draft : Draft) (rest : Option (List ℕ)) → IsDraft forms draft → eqb draft.count 0 ≡ false → IfRead (schedule_of forms draft rest) (IsDraft forms)
schedule_fits forms draft None h some = refused _ NotAStatement
schedule_fits forms draft (Some items) h some = schedule_test forms draft items forms.schedule refl h some

-- ---- a line more
-- a line of a statement stands in a session, and before the schedule
in_order : (count : ℕ) (schedule : List Turns) (b : Bool) → eqb count 0 ≡ b → cond b true (not (is_empty schedule) && true) ≡ false → (eqb count 0 ≡ false) × (schedule ≡ [])
in_order count schedule true e h = cc
in_order count [] false e h = (e, refl)
in_order count (x ∷ xs) false e h = cc

session_in_order : (count : ℕ) (schedule : List Turns) (b : Bool) → (count ≡ 0 → schedule ≡ []) → eqb count 0 ≡ b → cond b false (not (is_empty schedule) && true) ≡ false → schedule ≡ []
session_in_order count schedule true placed e h = placed (eqb-true count 0 e)
session_in_order count [] false placed e h = refl
session_in_order count (x ∷ xs) false placed e h = cc

schedule_in_order : (count : ℕ) (schedule : List Turns) (b : Bool) → eqb count 0 ≡ b → cond b true (not (is_empty schedule) && false) ≡ false → eqb count 0 ≡ false
schedule_in_order count schedule true e h = cc
schedule_in_order count schedule false e h = e

other_fits : (forms : Forms) (draft : Draft) (form : Form) (rest : Option (List ℕ)) → IsDraft forms draft → AreTextBytes rest → cond (eqb draft.count 0) true (not (is_empty draft.schedule) && true) ≡ false → IfRead (rowed forms draft form rest) (IsDraft forms)
other_fits forms draft form rest h all ordered = rowed_fits forms draft form rest h (in_order draft.count draft.schedule (eqb draft.count 0) refl ordered).0 all

formed_fits : (forms : Forms) (draft : Draft) (form : Option Form) (rest : Option (List ℕ)) → IsDraft forms draft → AreTextBytes rest → is_out_of_order draft form ≡ false → IfRead (formed forms draft form rest) (IsDraft forms)
formed_fits forms draft None rest h all ordered = refused _ NotAStatement
formed_fits forms draft (Some Session) rest h all ordered = session_fits forms draft rest h (session_in_order draft.count draft.schedule (eqb draft.count 0) h.placed refl ordered)
formed_fits forms draft (Some Schedule) rest h all ordered = schedule_fits forms draft rest h (schedule_in_order draft.count draft.schedule (eqb draft.count 0) refl ordered)
formed_fits forms draft (Some Table) rest h all ordered = other_fits forms draft Table rest h all ordered
formed_fits forms draft (Some Movement) rest h all ordered = other_fits forms draft Movement rest h all ordered
formed_fits forms draft (Some Insert) rest h all ordered = other_fits forms draft Insert rest h all ordered
formed_fits forms draft (Some Update) rest h all ordered = other_fits forms draft Update rest h all ordered
formed_fits forms draft (Some Delete) rest h all ordered = other_fits forms draft Delete rest h all ordered
formed_fits forms draft (Some Commit) rest h all ordered = other_fits forms draft Commit rest h all ordered
formed_fits forms draft (Some Rollback) rest h all ordered = other_fits forms draft Rollback rest h all ordered
formed_fits forms draft (Some Scan) rest h all ordered = other_fits forms draft Scan rest h all ordered
formed_fits forms draft (Some Shrink) rest h all ordered = other_fits forms draft Shrink rest h all ordered
formed_fits forms draft (Some Usage) rest h all ordered = other_fits forms draft Usage rest h all ordered
formed_fits forms draft (Some Fix) rest h all ordered = other_fits forms draft Fix rest h all ordered
formed_fits forms draft (Some Repair) rest h all ordered = other_fits forms draft Repair rest h all ordered
formed_fits forms draft (Some Checkpoint) rest h all ordered = other_fits forms draft Checkpoint rest h all ordered

worded_test : (forms : Forms) (draft : Draft) (form : Option Form) (rest : Option (List ℕ)) (b : Bool) → is_out_of_order draft form ≡ b → IsDraft forms draft → AreTextBytes rest → IfRead (cond b (Err SessionOrder) (formed forms draft form rest)) (IsDraft forms)
worded_test forms draft form rest true e h all = refused _ SessionOrder
worded_test forms draft form rest false e h all = formed_fits forms draft form rest h all e

text_test : (forms : Forms) (draft : Draft) (line : List ℕ) (b : Bool) → list_all is_text_byte line ≡ b → IsDraft forms draft → IfRead (cond b (worded forms draft (form_named (cut 32 line).0) (cut 32 line).1) (Err BadByte)) (IsDraft forms)
text_test forms draft line true e h = worded_test forms draft (form_named (cut 32 line).0) (cut 32 line).1 (is_out_of_order draft (form_named (cut 32 line).0)) refl h (bytes_behind line e)
text_test forms draft line false e h = refused _ BadByte

line_fits : (forms : Forms) (draft : Draft) (line : List ℕ) → IsDraft forms draft → IfRead (line_of forms draft line) (IsDraft forms)
unfolding line_of
line_fits forms draft line h = chosen (is_passed_over line) (done (IsDraft forms) draft h) (text_test forms draft line (list_all is_text_byte line) refl h)

-- ---- all lines
none_read : (forms : Forms) → IsDraft forms nothing_read
none_read forms = record {
  few = omega arith;
  closed = tt;
  current = tt;
  count = refl;
  bound = refl;
  labels = tt;
  turns = tt;
  placed = λ _. refl;
}

after_line : (forms : Forms) (draft : Draft) (n : ℕ) (line : List ℕ) (rest : List (List ℕ)) (last : Draft) → IsDraft forms draft → ((now : Draft) → IsDraft forms now → read_lines forms now (n + 1) rest ≡ Ok last → IsDraft forms last) → (r : Result Draft Why) → line_of forms draft line ≡ r → goes_on (at_line (n + 1) r) (λ now. read_lines forms now (n + 1) rest) ≡ Ok last → IsDraft forms last
after_line forms draft n line rest last h next (Ok now) is k = next now (line_fits forms draft line h now is) k
after_line forms draft n line rest last h next (Err why) is k = cc

lines_fit : (forms : Forms) (draft : Draft) (n : ℕ) (ls : List (List ℕ)) (last : Draft) → IsDraft forms draft → read_lines forms draft n ls ≡ Ok last → IsDraft forms last
lines_fit forms draft n [] last h e = let same : draft ≡ last = cc in subst (IsDraft forms) same h
lines_fit forms draft n (line ∷ rest) last h e =
    after_line forms draft n line rest last h (λ now is k. lines_fit forms now (n + 1) rest last is k) (line_of forms draft line) refl e

pub script_fits : (forms : Forms) (draft : Draft) → IsDraft forms draft → IsScript forms (script_of draft)
script_fits forms draft h =
    let P : ℕ → Type 0 = λ n. AllByRecursion (IsTurns forms n) draft.schedule in
    let Q : List (List ℕ) → Type 0 = λ z. AreNew [] z in
    record {
      few = omega (arith, h.count, h.few);
      statements = sessions_fit forms draft h;
      labels = subst Q h.bound h.labels;
      turns = subst P (sym h.count) h.turns;
      placed = λ e. h.placed (sym h.count ∙ ap length e);
    }

-- what all lines of a text give has a spelling
pub read_fits : (forms : Forms) (ls : List (List ℕ)) (draft : Draft) → read_lines forms nothing_read 0 ls ≡ Ok draft → IsScript forms (script_of draft)
read_fits forms ls draft e = script_fits forms draft (lines_fit forms nothing_read 0 ls draft (none_read forms) e)

-- ---- what is spelled stays so when more forms are built
open_all : (form : Form) → is_open ALL_FORMS form ≡ true
open_all Session = refl
open_all Table = refl
open_all Movement = refl
open_all Insert = refl
open_all Update = refl
open_all Delete = refl
open_all Commit = refl
open_all Rollback = refl
open_all Scan = refl
open_all Shrink = refl
open_all Usage = refl
open_all Fix = refl
open_all Repair = refl
open_all Checkpoint = refl
open_all Schedule = refl

ready_all : (s : Statement) → is_ready ALL_FORMS s ≡ true
ready_all (asks.Table name pctfree) = refl
ready_all (asks.Movement table on) = refl
ready_all (asks.Insert table label text) = refl
ready_all (asks.Update table target text) = refl
ready_all (asks.Delete table target) = refl
ready_all asks.Commit = refl
ready_all asks.Rollback = refl
ready_all (asks.Scan table) = refl
ready_all (asks.Shrink table true) = refl
ready_all (asks.Shrink table false) = refl
ready_all (asks.Usage table) = refl
ready_all (asks.Fix table block value) = refl
ready_all (asks.Repair table) = refl
ready_all asks.Checkpoint = refl

session_all : (forms : Forms) (session : List Statement) → AllSpelled forms session → AllSpelled ALL_FORMS session
session_all forms [] h = tt
session_all forms (s ∷ rest) h = (record { built = open_all (form_of s); ready = ready_all s; spelled = h.0.spelled }, session_all forms rest h.1)

sessions_all : (forms : Forms) (sessions : List (List Statement)) → AllByRecursion (AllSpelled forms) sessions → AllByRecursion (AllSpelled ALL_FORMS) sessions
sessions_all forms [] h = tt
sessions_all forms (session ∷ rest) h = (session_all forms session h.0, sessions_all forms rest h.1)

turns_all : (forms : Forms) (n : ℕ) (schedule : List Turns) → AllByRecursion (IsTurns forms n) schedule → AllByRecursion (IsTurns ALL_FORMS n) schedule
turns_all forms n [] h = tt
turns_all forms n (turns ∷ rest) h = (record { built = refl; who = h.0.who; some = h.0.some; few = h.0.few; flush = λ _. refl }, turns_all forms n rest h.1)

pub script_all : (forms : Forms) (script : Script) → IsScript forms script → IsScript ALL_FORMS script
script_all forms script h =
    let most = most_few forms.sessions in
    record {
      few = omega (arith, h.few, most);
      statements = sessions_all forms script.sessions h.statements;
      labels = h.labels;
      turns = turns_all forms (length script.sessions) script.schedule h.turns;
      placed = h.placed;
    }

-- the same, as the parser finds it at the end of the lines
pub read_built : (forms : Forms) (text : List ℕ) (draft : Draft) → read_lines forms nothing_read 0 (lines text) ≡ Ok draft → IsScript forms (script_of draft)
read_built forms text draft e = read_fits forms (lines text) draft e

pub read_all : (forms : Forms) (text : List ℕ) (draft : Draft) → read_lines forms nothing_read 0 (lines text) ≡ Ok draft → IsScript ALL_FORMS (script_of draft)
read_all forms text draft e = script_all forms (script_of draft) (read_built forms text draft e)

-- whatever is read from bytes has a spelling
of_draft : (forms : Forms) (ls : List (List ℕ)) (script : Script) (r : Result Draft ScriptFault) → read_lines forms nothing_read 0 ls ≡ r → goes_on r (λ draft. Ok (script_of draft)) ≡ Ok script → IsScript forms script
of_draft forms ls script (Ok draft) is e = let same : script_of draft ≡ script = cc in subst (IsScript forms) same (read_fits forms ls draft is)
of_draft forms ls script (Err fault) is e = cc

pub scripts_fit : (forms : Forms) (text : List ℕ) (script : Script) → scripts_of forms text ≡ Ok script → IsScript forms script
scripts_fit forms text script e = of_draft forms (lines text) script (read_lines forms nothing_read 0 (lines text)) refl e
