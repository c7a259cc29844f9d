-- The form of a record.
use Rattle.std.proofs.Common.{◌≡◌, ℕ, Bool, cond, eqb, List, ◌∷◌, ◌++◌, Option, Some, refl, sym, ap, subst, ◌∙◌, inl, inr}
use Rattle.std.proofs.lemmas.Bool.{cases_Bool, eqb-true}
use Rattle.redo_record.specs.declared.record.Record.{Record}
use Rattle.redo_record.specs.declared.record.Record.TheVariants.{Table, Movement, Extend, FormatBlock, Class, Advance, Lower, Begin, Reuse, Insert, Update, Migrate, Return, Delete, Commit, Back, Ended, Move, Clean}
use Rattle.redo_record.specs.Forms.{Reader, byte, made}
use Rattle.redo_record.specs.Spelling.{spelling}
use Rattle.redo_record.specs.Spelled.{HasSpelling}
use Rattle.redo_record.specs.Reading.{no_record, fields_at, record_at}
use Rattle.redo_record.proofs.Laws.{IsBytes, Takes, Spells, bind_some, some_is, byte_spells}
use Rattle.redo_record.proofs.RowForms.{row_body_spells, back_spells, move_spells}
use Rattle.redo_record.proofs.SpaceForms.{table_spells, movement_spells, extend_spells, format_block_spells, class_spells, advance_spells, lower_spells}
use Rattle.redo_record.proofs.TransactionForms.{begin_spells, reuse_spells, commit_spells, ended_spells, clean_spells}

-- what stands behind a kind is of that kind
pub record IsOfKind (k : ℕ) (bytes : List ℕ) (x : Record) (rest : List ℕ) : Type 0 where
  pub spelled : k ∷ bytes ≡ spelling x ++ rest
  pub rest_fits : IsBytes rest
  pub has : HasSpelling x

of_kind : {A : Type 0} {r : Reader A} {a : A → List ℕ} {F : A → Type 0} (k n : ℕ) (f : A → Record) → Spells r a F → ((x : A) → n ∷ a x ≡ spelling (f x)) → ((x : A) → F x → HasSpelling (f x)) → k ≡ n
    → (bytes : List ℕ) (x : Record) (rest : List ℕ) → IsBytes bytes → made f r bytes ≡ Some (x, rest) → IsOfKind k bytes x rest
of_kind {A} {r} {a} {F} k n f spells is has kind bytes x rest are e =
    let y = bind_some (r bytes) (λ y. Some (f y.0, y.1)) (x, rest) e in
    let taken = spells.takes bytes y.0.0 y.0.1 are y.1 in
    let P : Record × List ℕ → Type 0 = λ q. IsOfKind k bytes q.0 q.1 in
    subst P (some_is (f y.0.0, y.0.1) (x, rest) y.2) (record {
      spelled = ap (λ (m : ℕ). m ∷ bytes) kind ∙ ap (λ (t : List ℕ). n ∷ t) taken.0.parts ∙ ap (λ (t : List ℕ). t ++ y.0.1) (is y.0.0);
      rest_fits = taken.0.rest_fits;
      has = has y.0.0 taken.1;
    })

-- the reader of a kind, or of the kinds after it
abbrev or_else : Bool → Reader Record → Reader Record → List ℕ → Option (Record × List ℕ)
or_else b r s bytes = (cond b r s) bytes

pub record Kinds (k : ℕ) (bytes : List ℕ) (r : Reader Record) : Type 0 where
  pub of : (x : Record) (rest : List ℕ) → IsBytes bytes → r bytes ≡ Some (x, rest) → IsOfKind k bytes x rest

either : (k n : ℕ) (bytes : List ℕ) (r s : Reader Record) → (k ≡ n → Kinds k bytes r) → Kinds k bytes s → Kinds k bytes (cond (eqb k n) r s)
either k n bytes r s one others = elim (cases_Bool (eqb k n)) [
  | inl t ↦ rw t (one (eqb-true k n t))
  | inr f ↦ rw f others
]

kind : {A : Type 0} {r : Reader A} {a : A → List ℕ} {F : A → Type 0} (k n : ℕ) (bytes : List ℕ) (f : A → Record) → Spells r a F → ((x : A) → n ∷ a x ≡ spelling (f x)) → ((x : A) → F x → HasSpelling (f x)) → k ≡ n → Kinds k bytes (made f r)
kind k n bytes f spells is has e = record { of = λ x rest are read. of_kind k n f spells is has e bytes x rest are read }

none_of : (k : ℕ) (bytes : List ℕ) → Kinds k bytes no_record
none_of k bytes = record { of = λ x rest are e. absurd cc }

kinds : (k : ℕ) (bytes : List ℕ) → Kinds k bytes (fields_at k)
kinds k bytes =
    either k 1 bytes _ _ (kind k 1 bytes Table table_spells (λ x. refl) (λ x h. h))
    (either k 2 bytes _ _ (kind k 2 bytes Movement movement_spells (λ x. refl) (λ x h. h))
    (either k 3 bytes _ _ (kind k 3 bytes Extend extend_spells (λ x. refl) (λ x h. h))
    (either k 4 bytes _ _ (kind k 4 bytes FormatBlock format_block_spells (λ x. refl) (λ x h. h))
    (either k 5 bytes _ _ (kind k 5 bytes Class class_spells (λ x. refl) (λ x h. h))
    (either k 6 bytes _ _ (kind k 6 bytes Advance advance_spells (λ x. refl) (λ x h. h))
    (either k 7 bytes _ _ (kind k 7 bytes Lower lower_spells (λ x. refl) (λ x h. h))
    (either k 8 bytes _ _ (kind k 8 bytes Begin begin_spells (λ x. refl) (λ x h. h))
    (either k 9 bytes _ _ (kind k 9 bytes Reuse reuse_spells (λ x. refl) (λ x h. h))
    (either k 10 bytes _ _ (kind k 10 bytes Insert row_body_spells (λ x. refl) (λ x h. h))
    (either k 11 bytes _ _ (kind k 11 bytes Update row_body_spells (λ x. refl) (λ x h. h))
    (either k 12 bytes _ _ (kind k 12 bytes Migrate row_body_spells (λ x. refl) (λ x h. h))
    (either k 13 bytes _ _ (kind k 13 bytes Return row_body_spells (λ x. refl) (λ x h. h))
    (either k 14 bytes _ _ (kind k 14 bytes Delete row_body_spells (λ x. refl) (λ x h. h))
    (either k 15 bytes _ _ (kind k 15 bytes Commit commit_spells (λ x. refl) (λ x h. h))
    (either k 16 bytes _ _ (kind k 16 bytes Back back_spells (λ x. refl) (λ x h. h))
    (either k 17 bytes _ _ (kind k 17 bytes Ended ended_spells (λ x. refl) (λ x h. h))
    (either k 18 bytes _ _ (kind k 18 bytes Move move_spells (λ x. refl) (λ x h. h))
    (either k 19 bytes _ _ (kind k 19 bytes Clean clean_spells (λ x. refl) (λ x h. h))
    (none_of k bytes)))))))))))))))))))

record_takes : (bytes : List ℕ) (x : Record) (rest : List ℕ) → IsBytes bytes → record_at bytes ≡ Some (x, rest) → Takes bytes (spelling x) rest × HasSpelling x
unfolding record_at
record_takes bytes x rest are e =
    let k = bind_some (byte bytes) (λ k. fields_at k.0 k.1) (x, rest) e in
    let taken = byte_spells.takes bytes k.0.0 k.0.1 are k.1 in
    let of = (kinds k.0.0 k.0.1).of x rest taken.0.rest_fits k.2 in
    (record { parts = taken.0.parts ∙ of.spelled; rest_fits = of.rest_fits }, of.has)

record_again : (x : Record) (rest : List ℕ) → HasSpelling x → record_at (spelling x ++ rest) ≡ Some (x, rest)
unfolding record_at
record_again (Table t) rest h = rw (table_spells.again t rest h) refl
record_again (Movement m) rest h = rw (movement_spells.again m rest h) refl
record_again (Extend e) rest h = rw (extend_spells.again e rest h) refl
record_again (FormatBlock f) rest h = rw (format_block_spells.again f rest h) refl
record_again (Class c) rest h = rw (class_spells.again c rest h) refl
record_again (Advance a) rest h = rw (advance_spells.again a rest h) refl
record_again (Lower l) rest h = rw (lower_spells.again l rest h) refl
record_again (Begin b) rest h = rw (begin_spells.again b rest h) refl
record_again (Reuse r) rest h = rw (reuse_spells.again r rest h) refl
record_again (Insert b) rest h = rw (row_body_spells.again b rest h) refl
record_again (Update b) rest h = rw (row_body_spells.again b rest h) refl
record_again (Migrate b) rest h = rw (row_body_spells.again b rest h) refl
record_again (Return b) rest h = rw (row_body_spells.again b rest h) refl
record_again (Delete b) rest h = rw (row_body_spells.again b rest h) refl
record_again (Commit c) rest h = rw (commit_spells.again c rest h) refl
record_again (Back b) rest h = rw (back_spells.again b rest h) refl
record_again (Ended e) rest h = rw (ended_spells.again e rest h) refl
record_again (Move m) rest h = rw (move_spells.again m rest h) refl
record_again (Clean c) rest h = rw (clean_spells.again c rest h) refl

pub record_spells : Spells record_at spelling HasSpelling
record_spells = record { takes = record_takes; again = record_again }

-- ---- lists of records

abbrev seen : Record × List ℕ → Option (Record × List ℕ)
seen x = Some x

-- no spelling begins another
pub one_spelling : (a b : Record) (x y : List ℕ) → HasSpelling a → HasSpelling b → spelling a ++ x ≡ spelling b ++ y → (a ≡ b) × (x ≡ y)
one_spelling a b x y ha hb e =
    let same : seen (a, x) ≡ seen (b, y) = sym (record_again a x ha) ∙ ap record_at e ∙ record_again b y hb in
    let pair = some_is (a, x) (b, y) same in
    (ap (λ (p : Record × List ℕ). p.0) pair, ap (λ (p : Record × List ℕ). p.1) pair)
