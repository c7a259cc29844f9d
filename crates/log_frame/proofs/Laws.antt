-- What is spelled is found.
use Rattle.std.proofs.Common.{◌≡◌, ◌≢◌, ℕ, ◌+◌, ◌≤◌, Bool, true, false, ◌&&◌, List, [], ◌∷◌, ◌++◌, length, take, drop, get_or, refl, sym, ◌∙◌, ap, subst, arith, length-append, Option, Some, None, Result, Ok, Err, w32, append_assoc, take_at, drop_at, leb-true}
use Rattle.seg_words.specs.Types.{to_be_bytes, from_be_bytes, AllByRecursion, number_in, is_shape, Shape, FIRST_GATE, LEAST_BLOCKS, LEAST_EXTENT_BLOCKS, LEAST_UNDO_BLOCKS, LOG_HEAD_SIZE, MOST_BLOCKS, MOST_EXTENT_BLOCKS, MOST_UNDO_BLOCKS, OWN_BLOCKS}
use Rattle.seg_words.proofs.Lemmas.{get_or-append_seam, from_be_bytes-to_be_bytes_4, flat_map-append, nat_tests}
use Rattle.log_frame.specs.Types.{head, is_formatted, shape_in, shape_found, wrong_number, unless, frame, frames, IsPayload, size_found, Walks, IsLog, WrongByte, GROUP_HEAD_SIZE}

-- behind some bytes stands a gate
module _ (front : List ℕ) (gate : ℕ) (rest bytes : List ℕ) (is : bytes ≡ front ++ gate ∷ rest) where
  size : length bytes ≡ length front + 1 + length rest
  size = omega (arith, ap length is, length-append front (gate ∷ rest))

  from_there : drop (length front) bytes ≡ gate ∷ rest
  from_there = ap (drop (length front)) is ∙ drop_at front (gate ∷ rest) (length front) refl

  behind_gate : drop (length front + 1) bytes ≡ rest
  behind_gate = ap (drop (length front + 1)) (is ∙ sym (append_assoc front (gate ∷ []) rest)) ∙ drop_at (front ++ gate ∷ []) rest (length front + 1) (length-append front (gate ∷ []))

  pub gate_is : get_or bytes (length front) 0 ≡ gate
  gate_is = ap (λ (l : List ℕ). get_or l (length front) 0) is ∙ get_or-append_seam front gate rest 0

  pub closed_found : gate ≢ 1 → size_found bytes (length front) ≡ Ok None
  closed_found shut =
      let here = gate_is in
      let long = size in
      grind (arith, nat_tests)

-- behind some bytes stands a group, and more
module _ (front payload rest bytes : List ℕ) (fits : IsPayload payload) (some : 1 ≤ length rest) (is : bytes ≡ front ++ (frame payload ++ rest)) where
  at : ℕ
  at = length front

  tail : List ℕ
  tail = to_be_bytes w32 (length payload) ++ payload ++ rest

  gated : bytes ≡ front ++ 1 ∷ tail
  unfolding tail
  gated = is

  sized : number_in w32 bytes (length front + 1) ≡ length payload
  unfolding tail
  sized = ap (λ (l : List ℕ). from_be_bytes w32 (take 4 l)) (behind_gate front 1 tail bytes gated ∙ append_assoc (to_be_bytes w32 (length payload)) payload rest) ∙ from_be_bytes-to_be_bytes_4 (length payload) fits.fits

  long : length bytes ≡ length front + GROUP_HEAD_SIZE + length payload + length rest
  long = omega (arith, ap length is, length-append front (frame payload ++ rest), length-append (frame payload) rest, length-append (to_be_bytes w32 (length payload)) payload)

  pub size_is : size_found bytes (length front) ≡ Ok (Some (length payload))
  size_is =
      let first = gate_is front 1 tail bytes gated in
      let number = sized in
      let all = long in
      let more = fits.some in
      grind (arith, nat_tests)

  pub payload_is : take (length payload) (drop (length front + GROUP_HEAD_SIZE) bytes) ≡ payload
  payload_is =
      let four = to_be_bytes w32 (length payload) in
      let split : bytes ≡ (front ++ 1 ∷ four) ++ (payload ++ rest) = is ∙ simp append_assoc in
      ap (take (length payload)) (ap (drop (length front + GROUP_HEAD_SIZE)) split ∙ drop_at (front ++ 1 ∷ four) (payload ++ rest) (length front + GROUP_HEAD_SIZE) (length-append front (1 ∷ four)))
      ∙ take_at payload rest (length payload) refl

-- groups behind some bytes, and a closed gate
pub walks_there : (groups : List (List ℕ)) (front : List ℕ) (gate : ℕ) (rest bytes : List ℕ) (at : ℕ) → at ≡ length front → gate ≢ 1 → AllByRecursion IsPayload groups → bytes ≡ front ++ (frames groups ++ gate ∷ rest)
    → Walks bytes at groups (Ok (at + length (frames groups)))
walks_there [] front gate rest bytes at place shut all is =
    let here : size_found bytes at ≡ Ok None = ap (size_found bytes) place ∙ closed_found front gate rest bytes is shut in
    (here, omega arith)
walks_there (g ∷ groups) front gate rest bytes at place shut all is =
    let behind = frames groups ++ gate ∷ rest in
    let split : bytes ≡ front ++ (frame g ++ behind) = is ∙ ap (λ (l : List ℕ). front ++ l) (append_assoc (frame g) (frames groups) (gate ∷ rest)) in
    let some : 1 ≤ length behind = omega (arith, length-append (frames groups) (gate ∷ rest)) in
    let further : bytes ≡ (front ++ frame g) ++ behind = split ∙ sym (append_assoc front (frame g) behind) in
    let size : length (frame g) ≡ GROUP_HEAD_SIZE + length g = omega (arith, length-append (to_be_bytes w32 (length g)) g) in
    let next : at + GROUP_HEAD_SIZE + length g ≡ length (front ++ frame g) = omega (arith, place, size, length-append front (frame g)) in
    let later = walks_there groups (front ++ frame g) gate rest bytes (at + GROUP_HEAD_SIZE + length g) next shut all.1 further in
    let end : at + GROUP_HEAD_SIZE + length g + length (frames groups) ≡ at + length (frame g ++ frames groups) = omega (arith, size, length-append (frame g) (frames groups)) in (
      ap (size_found bytes) place ∙ size_is front g behind bytes all.0 some split,
      ap (λ (n : ℕ). take (length g) (drop (n + GROUP_HEAD_SIZE) bytes)) place ∙ payload_is front g behind bytes all.0 some split,
      subst (λ (n : ℕ). Walks bytes (at + GROUP_HEAD_SIZE + length g) groups (Ok n)) end later,
    )

-- a walk ends in one way
pub walks_once : (gs hs : List (List ℕ)) (bytes : List ℕ) (at : ℕ) (r s : Result ℕ WrongByte) → Walks bytes at gs r → Walks bytes at hs s → (gs ≡ hs) × (r ≡ s)
walks_once [] [] bytes at (Ok m) (Ok n) first second = (refl, ap Ok (first.1 ∙ sym second.1))
walks_once [] [] bytes at (Ok m) (Err f) first second = absurd (cc (first.0, second))
walks_once [] [] bytes at (Err e) (Ok n) first second = absurd (cc (first, second.0))
walks_once [] [] bytes at (Err e) (Err f) first second = (refl, cc (first, second))
walks_once [] (h ∷ hs) bytes at (Ok m) s first second = absurd (cc (first.0, second.0))
walks_once [] (h ∷ hs) bytes at (Err e) s first second = absurd (cc (first, second.0))
walks_once (g ∷ gs) [] bytes at r (Ok n) first second = absurd (cc (first.0, second.0))
walks_once (g ∷ gs) [] bytes at r (Err f) first second = absurd (cc (first.0, second))
walks_once (g ∷ gs) (h ∷ hs) bytes at r s first second =
    let size : length g ≡ length h = cc (first.0, second.0) in
    let same : g ≡ h = sym first.1 ∙ ap (λ (n : ℕ). take n (drop (at + GROUP_HEAD_SIZE) bytes)) size ∙ second.1 in
    let later = walks_once gs hs bytes (at + GROUP_HEAD_SIZE + length g) r s first.2 (subst (λ (n : ℕ). Walks bytes (at + GROUP_HEAD_SIZE + n) hs s) (sym size) second.2) in
    (ap (λ (l : List ℕ). l ∷ gs) same ∙ ap (λ (l : List (List ℕ)). h ∷ l) later.0, later.1)

-- a shape within the limits
pub record HasLimits (shape : Shape) : Type 0 where
  pub blocks : (LEAST_BLOCKS ≤ shape.blocks) × (shape.blocks ≤ MOST_BLOCKS)
  pub extent : (LEAST_EXTENT_BLOCKS ≤ shape.extent) × (shape.extent ≤ MOST_EXTENT_BLOCKS)
  pub undo : (LEAST_UNDO_BLOCKS ≤ shape.undo) × (shape.undo ≤ MOST_UNDO_BLOCKS)
  pub sum : OWN_BLOCKS + shape.undo + shape.extent ≤ shape.blocks

both_true : (a b : Bool) → (a && b) ≡ true → (a ≡ true) × (b ≡ true)
both_true true b h = (refl, h)
both_true false b h = absurd cc

pub limits : (shape : Shape) → is_shape shape ≡ true → HasLimits shape
limits shape within =
    let s6 = both_true _ _ within in
    let s5 = both_true _ _ s6.0 in
    let s4 = both_true _ _ s5.0 in
    let s3 = both_true _ _ s4.0 in
    let s2 = both_true _ _ s3.0 in
    let s1 = both_true _ _ s2.0 in
    record {
      blocks = (leb-true _ _ s1.0, leb-true _ _ s1.1);
      extent = (leb-true _ _ s2.1, leb-true _ _ s3.1);
      undo = (leb-true _ _ s4.1, leb-true _ _ s5.1);
      sum = leb-true _ _ s6.1;
    }

-- no number of such a shape is wrong
pub none_wrong : (shape : Shape) (bytes : List ℕ) → is_shape shape ≡ true → wrong_number bytes shape ≡ None
none_wrong shape bytes within =
    let h = limits shape within in
    grind (arith, nat_tests)

-- the bytes of a log, group by group
module _ (shape : Shape) (groups : List (List ℕ)) (bytes : List ℕ) (log : IsLog shape groups bytes) where
  spelled : bytes ≡ head shape ++ (frames groups ++ log.stands.gate ∷ log.stands.begins.rest)
  spelled = log.stands.begins.is ∙ simp append_assoc

  pub formatted : is_formatted bytes ≡ true
  formatted =
      let first : get_or bytes 0 0 ≡ 1 = ap (λ (l : List ℕ). get_or l 0 0) spelled in
      let long : LOG_HEAD_SIZE ≤ length bytes = omega (arith, ap length spelled, length-append (head shape) (frames groups ++ log.stands.gate ∷ log.stands.begins.rest), length-append (frames groups) (log.stands.gate ∷ log.stands.begins.rest)) in
      grind (arith, nat_tests)

  -- what the head's 64 bytes say
  module _ (x : ℕ) (more : List ℕ) (behind : frames groups ++ log.stands.gate ∷ log.stands.begins.rest ≡ x ∷ more) where
    front_is : take LOG_HEAD_SIZE bytes ≡ head shape ++ x ∷ []
    front_is = ap (take LOG_HEAD_SIZE) (spelled ∙ ap (λ (l : List ℕ). head shape ++ l) behind)

    shape_is : shape_in (head shape ++ x ∷ []) ≡ shape
    shape_is =
        let h = limits shape log.within in
        let made : ℕ → ℕ → ℕ → Shape = λ b e u. record { blocks = b; extent = e; undo = u } in
        let again : ℕ → ℕ = λ n. from_be_bytes w32 (to_be_bytes w32 n) in
        ap (λ (n : ℕ). made n (again shape.extent) (again shape.undo)) (from_be_bytes-to_be_bytes_4 shape.blocks (omega (arith, h.blocks.1)))
        ∙ ap (λ (n : ℕ). made shape.blocks n (again shape.undo)) (from_be_bytes-to_be_bytes_4 shape.extent (omega (arith, h.extent.1)))
        ∙ ap (made shape.blocks shape.extent) (from_be_bytes-to_be_bytes_4 shape.undo (omega (arith, h.undo.1)))

    pub found : shape_found (take LOG_HEAD_SIZE bytes) ≡ Ok shape
    found =
        ap shape_found front_is
        ∙ ap (λ (s : Shape). unless (wrong_number (head shape ++ x ∷ []) s) (Ok s)) shape_is
        ∙ ap (λ (o : Option WrongByte). unless o (Ok shape)) (none_wrong shape (head shape ++ x ∷ []) log.within)

  nonempty : (groups : List (List ℕ)) (x : ℕ) (more : List ℕ) → (y : ℕ) × (ys : List ℕ) × (frames groups ++ x ∷ more ≡ y ∷ ys)
  nonempty [] x more = (x, more, refl)
  nonempty (g ∷ gs) x more = (1, to_be_bytes w32 (length g) ++ g ++ frames gs ++ x ∷ more, refl)

  pub head_is : shape_found (take LOG_HEAD_SIZE bytes) ≡ Ok shape
  head_is = let there = nonempty groups log.stands.gate log.stands.begins.rest in found there.0 there.1 there.2

-- from any gate of a log on
pub walks_from : (shape : Shape) (before after : List (List ℕ)) (bytes : List ℕ) (at : ℕ) → IsLog shape (before ++ after) bytes → at ≡ FIRST_GATE + length (frames before) → Walks bytes at after (Ok (FIRST_GATE + length (frames (before ++ after))))
walks_from shape before after bytes at log place =
    let gate = log.stands.gate in
    let rest = log.stands.begins.rest in
    let both : frames (before ++ after) ≡ frames before ++ frames after = flat_map-append frame before after in
    let split : bytes ≡ (head shape ++ frames before) ++ (frames after ++ gate ∷ rest) =
    log.stands.begins.is ∙ ap (λ (l : List ℕ). head shape ++ l ++ gate ∷ [] ++ rest) both ∙ simp append_assoc in
    let front : at ≡ length (head shape ++ frames before) = omega (arith, place, length-append (head shape) (frames before)) in
    let payloads = payloads_after before after log.payloads in
    let end : at + length (frames after) ≡ FIRST_GATE + length (frames (before ++ after)) = omega (arith, place, ap length both, length-append (frames before) (frames after)) in
    subst (λ (n : ℕ). Walks bytes at after (Ok n)) end (walks_there after (head shape ++ frames before) gate rest bytes at front log.stands.shut payloads split)
  where
    payloads_after : (before after : List (List ℕ)) → AllByRecursion IsPayload (before ++ after) → AllByRecursion IsPayload after
    payloads_after [] after all = all
    payloads_after (g ∷ gs) after all = payloads_after gs after all.1
