-- A change as it is drafted, and what it is in the words of the list.
use Rattle.std.specs.Prelude.{◌≡◌, ℕ, suc, ◌+◌, List, [], ◌∷◌, length, Option, Some, None}
use Rattle.seg_words.specs.Types.{UndoAddr, By, UNDO_PART_SIZE, next_room}
use Rattle.redo_model.specs.Records.{Record, RowPart, RowBody, ReuseRecord}
use Rattle.redo_model.specs.Model.{Content, ended_in, image, image_with, next_slot, part_addr, number_or_zero}
use Rattle.change_laws.specs.Types.{RowKind, Inserts, Updates, Migrates, Returns, Deletes, as_record, entry_by, Fill, Change}
use Rattle.row_change.specs.declared.actor.Actor.{Actor}
use Rattle.row_change.specs.declared.replaced.Replaced.{Replaced}
use Rattle.row_change.specs.declared.draft.Content.{Content as Filling}
use Rattle.row_change.specs.declared.draft.Fill.{Fill as Told}
use Rattle.row_change.specs.declared.draft.Fills.{Fills}
use Rattle.row_change.specs.declared.draft.Fills.TheVariants.{One, Two, Three}
use Rattle.row_change.specs.declared.draft.ChangeKind.{ChangeKind}
use Rattle.row_change.specs.declared.draft.ChangeKind.TheVariants as kinds
use Rattle.row_change.specs.declared.draft.Change.{Change as ToldChange}
use Rattle.row_change.specs.declared.draft.Additions.{Additions}

abbrev pub fill_list : Fills → List Told
fill_list (One a) = a ∷ []
fill_list (Two a b) = a ∷ b ∷ []
fill_list (Three a b c) = a ∷ b ∷ c ∷ []

abbrev pub told_kind : ChangeKind → RowKind
told_kind kinds.Insert = Inserts
told_kind kinds.Update = Updates
told_kind kinds.Migrate = Migrates
told_kind kinds.Return = Returns
told_kind kinds.Delete = Deletes

abbrev pub told_content : Filling → Content
told_content c = record { kind = c.kind; row = c.row; link = c.link; bytes = c.bytes }

abbrev pub drafted_size : List Told → ℕ
drafted_size [] = 0
drafted_size (f ∷ fs) = f.replaced.size + drafted_size fs

-- the part that fills a slot, by t, with its undo there
abbrev pub drafted_part : Told → ℕ → UndoAddr → RowPart
drafted_part f t a = record {
  dba = f.dba;
  slot = f.replaced.slot;
  entry = Some f.replaced.entry;
  new = image_with (told_content f.content) (By t) a f.replaced.room;
  old = f.replaced.old;
}

-- the first of them at place i
abbrev pub drafted_parts : List Told → ℕ → UndoAddr → ℕ → List RowPart
drafted_parts [] t a i = []
drafted_parts (f ∷ fs) t a i = drafted_part f t (part_addr a i) ∷ drafted_parts fs t a (suc i)

abbrev pub drafted_body : Actor → ToldChange → UndoAddr → RowBody
drafted_body actor c a = record { txn = actor.txn; entry = actor.entry; obj = c.obj; row = c.row; undo = a; previous = actor.previous; parts = drafted_parts (fill_list c.fills) actor.txn a 0 }

abbrev pub additions : Actor → ToldChange → UndoAddr → Option ReuseRecord → Additions
additions actor c a reuse = record {
  begin = actor.begin;
  reuse = reuse;
  change = as_record (told_kind c.kind) (drafted_body actor c a);
  done = record { row = c.row; txn = actor.txn };
}

-- ---- by the list

-- what own writes over in slot k of block b with so long a row
abbrev pub replaced_of : List Record → Option ℕ → ℕ → ℕ → ℕ → Replaced
replaced_of R own b k len = record {
  slot = k;
  entry = number_or_zero (entry_by R own b);
  room = next_room (ended_in R) (image R b k) len;
  size = UNDO_PART_SIZE + length (image R b k).bytes;
  old = image R b k;
}

-- slot k, or where a new row goes
abbrev pub place_or : List Record → ℕ → Option ℕ → ℕ
place_or R b None = next_slot R b
place_or R b (Some k) = k

-- the code's fill is this one
pub record FillIs (R : List Record) (own : Option ℕ) (f : Told) (g : Fill) : Type 0 where
  pub dba : f.dba ≡ g.at.dba
  pub replaced : f.replaced ≡ replaced_of R own g.at.dba g.at.slot (length g.content.bytes)
  pub content : told_content f.content ≡ g.content

abbrev pub FillsAre : List Record → Option ℕ → List Told → List Fill → Type 0
FillsAre R own [] [] = Unit {0}
FillsAre R own [] (g ∷ gs) = ⊥
FillsAre R own (f ∷ fs) [] = ⊥
FillsAre R own (f ∷ fs) (g ∷ gs) = FillIs R own f g × FillsAre R own fs gs

pub record ChangeIs (R : List Record) (own : Option ℕ) (x : ToldChange) (c : Change) : Type 0 where
  pub kind : told_kind x.kind ≡ c.kind
  pub obj : x.obj ≡ c.obj
  pub row : x.row ≡ c.row
  pub fills : FillsAre R own (fill_list x.fills) c.fills
