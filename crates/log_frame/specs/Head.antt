-- The head of a log: a gate, the name, the store's shape, zeros. This engine's own.
use Rattle.std.specs.Prelude.{ℕ, ◌+◌, ◌==◌, nat_le, Bool, ◌&&◌, List, [], ◌∷◌, ◌++◌, length, drop, slice_index, replicate, Option, Some, None, option_map, Result, Ok, Err, if◌then◌else◌}
use Rattle.seg_words.specs.Types.{w32, to_be_bytes, number_in, Shape, ShapeNumber, Blocks, Extent, Undo, wrong_number as out_of_range, LOG_HEAD_SIZE}
use Rattle.log_frame.specs.declared.head.TheConstants.{HEAD_NAME, BLOCKS_AT, EXTENT_AT, UNDO_AT, ZEROS_AT, HEAD_ZEROS}
use Rattle.log_frame.specs.declared.fault.WrongByte.{WrongByte}

-- what stands between the head's gate and that of the first group
abbrev pub head_body : Shape → List ℕ
head_body shape = HEAD_NAME ++ to_be_bytes w32 shape.blocks ++ to_be_bytes w32 shape.extent ++ to_be_bytes w32 shape.undo ++ replicate HEAD_ZEROS 0

-- the head behind its open gate
abbrev pub head : Shape → List ℕ
head shape = 1 ∷ head_body shape

-- it has a whole head, whose gate is open
abbrev pub is_formatted : List ℕ → Bool
is_formatted bytes = nat_le LOG_HEAD_SIZE (length bytes) && (slice_index bytes 0 == 1)

-- what is wrong at that place of a log
abbrev pub bad_at : List ℕ → ℕ → WrongByte
bad_at bytes at = record { offset = at; seen = slice_index bytes at }

-- the first byte from a place on that isn't the right one
abbrev pub first_wrong : ℕ → List ℕ → List ℕ → Option WrongByte
first_wrong at [] bytes = None
first_wrong at (right ∷ rights) [] = Some (record { offset = at; seen = 0 })
first_wrong at (right ∷ rights) (byte ∷ bytes) = if byte == right then first_wrong (at + 1) rights bytes else Some (record { offset = at; seen = byte })

abbrev pub shape_in : List ℕ → Shape
shape_in bytes = record { blocks = number_in w32 bytes BLOCKS_AT; extent = number_in w32 bytes EXTENT_AT; undo = number_in w32 bytes UNDO_AT }

-- where a number of the shape stands
abbrev pub place_of : ShapeNumber → ℕ
place_of Blocks = BLOCKS_AT
place_of Extent = EXTENT_AT
place_of Undo = UNDO_AT

-- the first number that is out of its range, or the last where only their sum is too great
abbrev pub wrong_number : List ℕ → Shape → Option WrongByte
wrong_number bytes shape = option_map (λ (number : ShapeNumber). bad_at bytes (place_of number)) (out_of_range shape)

-- the first fault, or else the answer
abbrev pub unless : {A : Type 0} → Option WrongByte → Result A WrongByte → Result A WrongByte
unless None answer = answer
unless (Some fault) answer = Err fault

-- what a head says, whose gate is open
abbrev pub shape_found : List ℕ → Result Shape WrongByte
shape_found bytes =
    unless (first_wrong 1 HEAD_NAME (drop 1 bytes))
    (unless (wrong_number bytes (shape_in bytes))
    (unless (first_wrong ZEROS_AT (replicate HEAD_ZEROS 0) (drop ZEROS_AT bytes)) (Ok (shape_in bytes))))
