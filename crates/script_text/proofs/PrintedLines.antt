-- A printed script has no comments and no empty lines.
use Rattle.std.proofs.Common.{◌≡◌, ℕ, ◌+◌, ◌^◌, ◌≤◌, ◌||◌, Bool, false, true, List, [], ◌∷◌, ◌++◌, length, refl, ap, ◌∙◌, arith, Option, Some, append_assoc, decimal}
use Rattle.seg_words.specs.Types.{list_all, list_any, AllByRecursion}
use Rattle.std.specs.Str.Lines.{lines}
use Rattle.script_text.specs.OwnTypes.{Statement, Turns, Form, Session, Schedule, Forms, ALL_FORMS}
use Rattle.script_text.specs.Pieces.{is_text_byte}
use Rattle.script_text.specs.Forms.{word_of}
use Rattle.script_text.specs.Script.{Script}
use Rattle.script_text.specs.Grammar.{is_passed_over}
use Rattle.script_text.specs.Spelled.{IsTurns, IsScript, form_of, behind, with_rest, statement_line, statement_lines, session_line, session_lines, item_text, items_text, schedule_line, printed}
use Rattle.script_text.proofs.LinesSaid.{lines_front, statement_is_text, decimal_is_text, not_passed}
use Rattle.script_text.proofs.ScriptFits.{AllSpelled}
use Rattle.script_text.proofs.ScriptSaid.{items_are_text}

abbrev any_passed : List ℕ → Bool
any_passed text = list_any is_passed_over (lines text)

line_passes : (form : Form) (rest : Option (List ℕ)) (more : List ℕ) → list_all is_text_byte (with_rest (word_of form) rest) ≡ true → any_passed (with_rest (word_of form) rest ++ 10 ∷ more) ≡ any_passed more
line_passes form rest more all =
    ap (list_any is_passed_over) (lines_front (with_rest (word_of form) rest) more all) ∙ ap (λ b. b || any_passed more) (not_passed form rest)

statements_pass : (forms : Forms) (session : List Statement) (more : List ℕ) → AllSpelled forms session → any_passed (statement_lines session ++ more) ≡ any_passed more
unfolding statement_line
statements_pass forms [] more h = refl
statements_pass forms (s ∷ session) more h =
    ap any_passed (append_assoc (with_rest (word_of (form_of s)) (behind s) ++ 10 ∷ []) (statement_lines session) more ∙ append_assoc (with_rest (word_of (form_of s)) (behind s)) (10 ∷ []) (statement_lines session ++ more))
    ∙ line_passes (form_of s) (behind s) (statement_lines session ++ more) (statement_is_text s h.0.spelled)
    ∙ statements_pass forms session more h.1

sessions_pass : (forms : Forms) (n : ℕ) (sessions : List (List Statement)) (more : List ℕ) → n + length sessions ≤ 2 ^ 32 → AllByRecursion (AllSpelled forms) sessions → any_passed (session_lines n sessions ++ more) ≡ any_passed more
unfolding session_line
sessions_pass forms n [] more few h = refl
sessions_pass forms n (session ∷ sessions) more few h =
    let tail = statement_lines session ++ (session_lines (n + 1) sessions ++ more) in
    let line = with_rest (word_of Session) (Some (decimal n)) in
    ap any_passed (append_assoc (line ++ 10 ∷ []) (statement_lines session ++ session_lines (n + 1) sessions) more
    ∙ ap (λ z. (line ++ 10 ∷ []) ++ z) (append_assoc (statement_lines session) (session_lines (n + 1) sessions) more)
    ∙ append_assoc line (10 ∷ []) tail)
    ∙ line_passes Session (Some (decimal n)) tail (decimal_is_text n (omega (arith, few)))
    ∙ statements_pass forms session (session_lines (n + 1) sessions ++ more) h.0
    ∙ sessions_pass forms (n + 1) sessions more (omega (arith, few)) h.1

schedule_passes : (forms : Forms) (n : ℕ) (schedule : List Turns) → n ≤ 64 → AllByRecursion (IsTurns forms n) schedule → any_passed (schedule_line schedule) ≡ false
schedule_passes forms n [] few h = refl
schedule_passes forms n (turns ∷ rest) few h = line_passes Schedule (Some (item_text turns ++ items_text rest)) [] (items_are_text forms n (turns ∷ rest) few h)

pub none_passed : (script : Script) → IsScript ALL_FORMS script → list_any is_passed_over (lines (printed script)) ≡ false
unfolding printed
none_passed script h =
    sessions_pass ALL_FORMS 1 script.sessions (schedule_line script.schedule) (omega (arith, h.few)) h.statements
    ∙ schedule_passes ALL_FORMS (length script.sessions) script.schedule h.few h.turns
