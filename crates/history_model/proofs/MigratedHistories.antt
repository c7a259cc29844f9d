-- An update that migrates its row, and the mark that it moved before.
use Rattle.std.proofs.Common.{◌≡◌, ℕ, true, false, eqb, eqb-true, ◌∷◌, Some, None, refl, sym, ◌∙◌, subst, lit≤, true≢false, inl, inr}
use Rattle.seg_words.proofs.Lemmas.{or_cases}
use Rattle.redo_model.specs.Records.{Migrate}
use Rattle.redo_model.specs.Model.{at_place, is_formatted, under_high, IsRowBlock}
use Rattle.redo_model.specs.Worked.{small, letters, begin, format_block, three, migration}
use Rattle.redo_laws.proofs.space.ApartLaw.{is_listed}
use Rattle.mark_laws.specs.Searches.{Sought, is_good}
use Rattle.change_laws.specs.Drafts.{Whole}
use Rattle.script_text.specs.declared.statement.Target.TheVariants.{Number}
use Rattle.history_model.specs.Causes.{sought_for, own_blocks}
use Rattle.history_model.specs.Worked.{name_t}
use Rattle.history_model.specs.WorkedMigration.{MigrationsAreShown}

abbrev sought : Sought
sought = sought_for None 1 400 (own_blocks (Whole (at_place 43 0)))

-- only block 43 is formatted, and that is the row's own
unformatted : (c b : ℕ) (A : Type 0) → eqb c b ≡ true → is_formatted small three c ≡ false → is_formatted small three b ≡ true → A
unformatted c b A e f h = absurd (true≢false (sym (subst (λ z. is_formatted small three z ≡ true) (sym (eqb-true c b e)) h) ∙ f))

none_good : (b : ℕ) → IsRowBlock small three 1 b → is_good small three sought b ≡ false
none_good b h =
    elim (or_cases (eqb 43 b) _ (is_listed (under_high small three 1) b h.here)) [
      | inl y ↦ subst (λ z. is_good small three sought z ≡ false) (eqb-true 43 b y) refl
      | inr n ↦ elim (or_cases (eqb 44 b) _ n) [
        | inl y ↦ unformatted 44 b _ y refl h.formatted
        | inr m ↦ elim (or_cases (eqb 45 b) _ m) [
          | inl y ↦ unformatted 45 b _ y refl h.formatted
          | inr k ↦ elim (or_cases (eqb 46 b) false k) [ inl y ↦ unformatted 46 b _ y refl h.formatted | inr f ↦ absurd (true≢false (sym f)) ]
        ]
      ]
    ]

pub migrations_are_shown : MigrationsAreShown
migrations_are_shown = record {
  mark_is_called_for = record {
    table = refl;
    row = 1;
    meant = refl;
    stand = Whole (at_place 43 0);
    write = record { active = tt; table = record { least = lit≤ tt; most = lit≤ tt }; was = letters 100 120; there = refl; free = λ h. absurd (true≢false (sym h)); stands = record { kind = refl; row = refl } };
    away = refl;
    entries = refl;
    none = none_good;
  };
  migrates = record {
    before = begin 2 1 ∷ format_block 44 ∷ three;
    body = migration;
    change = record {
      table = refl;
      own = refl;
      one = refl;
      event = format_block 44 ∷ three;
      idle = record { own = refl; rows = refl; begins = refl };
      begin = Some (record { txn = 2; session = 1; entry = 1; control = 0 });
      reuse = None;
      before_is = refl;
    };
    number = refl;
    meant = refl;
    text_is = refl;
    made = Migrate migration;
    kind = refl;
    goes = record {
      block = 44;
      is_found = record {
        sought = _;
        seeks = record { obj = 1; row = 1; on = record { name = name_t; named = refl; table = refl; target = Number 1; targeted = refl; row = refl }; stand = Whole (at_place 43 0); stands = record { kind = refl; row = refl }; away = refl; sought = refl };
        hint = None;
        found_is = refl;
      };
      at = refl;
    };
    ends = refl;
  };
}
