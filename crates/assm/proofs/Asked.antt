-- The script of one statement about a table.
use Rattle.std.proofs.Common.{◌≡◌, ℕ, ◌≤◌, true, List, [], ◌∷◌, ◌++◌, length, refl, sym, ◌∙◌, ap, subst, append-nil, arith, leb-true, Option, Some, None, Ok, Err, Result}
use Rattle.std.specs.Prelude.{◌+◌, ◌^◌, codes}
use Rattle.std.specs.Fmt.{digits}
use Rattle.seg_words.proofs.Lemmas.{and_parts, cases_Bool}
use Rattle.seg_words.specs.Types.{is_name, LONGEST_NAME}
use Rattle.disk_model.specs.Types.{Meaning}
use Rattle.session_step.specs.declared.forms.TheConstants.{BUILT_FORMS}
use Rattle.script_text.specs.declared.statement.Statement.{Statement}
use Rattle.script_text.specs.declared.statement.Statement.TheVariants as asks
use Rattle.script_text.specs.declared.why.Why.{Why}
use Rattle.script_text.specs.declared.why.ScriptFault.{ScriptFault}
use Rattle.script_text.specs.Script.{Script}
use Rattle.script_text.specs.Grammar.{scripts_of}
use Rattle.script_text.specs.Spelled.{printed, session_line, statement_line}
use Rattle.script_text.proofs.ScriptSaid.{printed_says}
use Rattle.assm.specs.declared.status.Status.{Status}
use Rattle.assm.specs.declared.status.Status.TheVariants as the
use Rattle.assm.specs.Words.{script_with}
use Rattle.assm.specs.Top.{RunTells}

-- ---- its text

with_nothing : (xs : List ℕ) → xs ≡ ((xs ++ []) ++ []) ++ []
with_nothing xs = sym (append-nil ((xs ++ []) ++ []) ∙ (append-nil (xs ++ []) ∙ append-nil xs))

pub usage_text : (t : List ℕ) → (((codes "session 1\n" ++ codes "usage") ++ codes " ") ++ t) ++ codes "\n" ≡ printed (script_with (asks.Usage t))
unfolding printed session_line statement_line digits
usage_text t = ap (λ (xs : List ℕ). codes "session 1\nusage " ++ xs) (with_nothing (t ++ codes "\n"))

pub repair_text : (t : List ℕ) → (((codes "session 1\n" ++ codes "repair") ++ codes " ") ++ t) ++ codes "\n" ≡ printed (script_with (asks.Repair t))
unfolding printed session_line statement_line digits
repair_text t = ap (λ (xs : List ℕ). codes "session 1\nrepair " ++ xs) (with_nothing (t ++ codes "\n"))

-- it is short
name_is_short : (t : List ℕ) → is_name t ≡ true → length t ≤ LONGEST_NAME
name_is_short t h = leb-true (length t) LONGEST_NAME (and_parts _ _ (and_parts _ _ (and_parts _ _ h).0).0).1

tail_length : (t : List ℕ) → length (t ++ codes "\n") ≡ length t + 1
tail_length [] = refl
tail_length (b ∷ t) = let h = tail_length t in omega (arith, h)

pub usage_is_short : (text t : List ℕ) → text ≡ (((codes "session 1\n" ++ codes "usage") ++ codes " ") ++ t) ++ codes "\n" → is_name t ≡ true → length text ≤ 2 ^ 24
usage_is_short text t e h = let l = name_is_short t h in let k = tail_length t in let whole = ap (λ (xs : List ℕ). length xs) e in omega (arith, l, k, whole)

pub repair_is_short : (text t : List ℕ) → text ≡ (((codes "session 1\n" ++ codes "repair") ++ codes " ") ++ t) ++ codes "\n" → is_name t ≡ true → length text ≤ 2 ^ 24
repair_is_short text t e h = let l = name_is_short t h in let k = tail_length t in let whole = ap (λ (xs : List ℕ). length xs) e in omega (arith, l, k, whole)

-- ---- it is in the grammar

pub usage_says : (t : List ℕ) → is_name t ≡ true → scripts_of BUILT_FORMS (printed (script_with (asks.Usage t))) ≡ Ok (script_with (asks.Usage t))
usage_says t h = printed_says BUILT_FORMS (script_with (asks.Usage t)) (record {
  few = omega arith;
  statements = ((record { built = refl; ready = refl; spelled = h }, tt), tt);
  labels = tt;
  turns = tt;
  placed = λ e. refl;
})

pub repair_says : (t : List ℕ) → is_name t ≡ true → scripts_of BUILT_FORMS (printed (script_with (asks.Repair t))) ≡ Ok (script_with (asks.Repair t))
repair_says t h = printed_says BUILT_FORMS (script_with (asks.Repair t)) (record {
  few = omega arith;
  statements = ((record { built = refl; ready = refl; spelled = h }, tt), tt);
  labels = tt;
  turns = tt;
  placed = λ e. refl;
})

never_both : (s : Script) (f : ScriptFault) → ◌≡◌ {A = Result Script ScriptFault} (Ok s) (Err f) → ⊥
never_both s f e = absurd (cc e)

pub never_bad : {D : Type 0} (meaning : Meaning D) (disk disk' : D) (old new : Option (List ℕ)) (text : List ℕ) (script : Script) (status : Status) (line : ℕ) (why : Why) → scripts_of BUILT_FORMS text ≡ Ok script → RunTells meaning disk disk' old new status text → status ≡ the.BadScript line why → ⊥
never_bad meaning disk disk' old new text script status line why says h e =
    let k = subst (λ (s : Status). RunTells meaning disk disk' old new s text) e h in never_both script _ (sym says ∙ k.0)
