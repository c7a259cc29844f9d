-- A lawful list in which a row of an earlier commit number is in the view of a transaction and in no block.
use Rattle.std.proofs.Common.{false, ◌∷◌, refl, lit<, lit≤}
use Rattle.seg_words.proofs.Lemmas.{agree_below_at}
use Rattle.redo_model.specs.AllowedTransactions.{takes_unused}
use Rattle.redo_model.specs.Model.{entry_state, is_unused, AreAllowed}
use Rattle.redo_model.specs.Worked.{small, hello, begin, filled}
use Rattle.redo_model.proofs.LawfulRuns.{lowered_lawful}
use Rattle.redo_laws.specs.Past.{taken_anew, PastIsLost}

filled_allowed : AreAllowed small filled
filled_allowed = lowered_lawful.allowed.0.0.0.0.0.0.0.0.0

begun : AreAllowed small (begin 5 4 ∷ filled)
begun = (
  filled_allowed,
  record {
    called_for = tt;
    kind = record {
      number = refl;
      session_from = lit≤ tt;
      session_to = lit≤ tt;
      none_open = refl;
      entry = takes_unused (record { within = lit< tt; unused = refl; least = λ j l. agree_below_at (λ i. is_unused (entry_state filled i)) (λ i. false) 4 j refl l; control_stays = refl });
    };
  },
)

anew : AreAllowed small taken_anew
anew = (
  begun,
  record {
    called_for = tt;
    kind = record {
      change = record {
        table = record { least = lit≤ tt; most = lit≤ tt };
        active = refl;
        entry = refl;
        undo = record { current = refl; sequence = refl; place = refl; fits = refl };
        previous = refl;
      };
      number = refl;
      bytes = hello;
      size = record { least = lit≤ tt; most = lit≤ tt };
      block = 43;
      here = record { here = (0, lit< tt, refl); formatted = refl };
      takes = refl;
      entry = 0;
      enters = record { entry_is = refl };
      parts = refl;
    };
  },
)

pub past_is_lost : PastIsLost
past_is_lost = record {
  lawful = record { allowed = anew; whole = refl };
  active = refl;
  earlier = lit< tt;
  viewed = refl;
  first_block = refl;
  second_block = refl;
}
