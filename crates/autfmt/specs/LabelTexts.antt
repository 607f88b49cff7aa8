-- This file is about the labels of a label table and their written forms, sorted by the bytes of the labels. The rank
-- of a label is its position in this order.
use Rattle.std.specs.Prelude.{◌≡◌, ℕ, List, length, map}
use Rattle.std.specs.List.{All}
use Rattle.theory.specs.System.{IsLabel, Transition}
use Rattle.lts.specs.Labels.{text_of}
use Rattle.autfmt.specs.declared.wording.Words.{Words}
use Rattle.autfmt.specs.Fronts.{AreSpelled}
use Rattle.autfmt.specs.Grammar.{is_plain}
use Rattle.autfmt.specs.Ranks.{Entry, texts, IsByBytes, AreRanks}

-- `AreReady words` holds if the labels in `words` are ready to be written. All three of the following conditions must
-- hold. First, the entries of `words` contain only valid labels. Second, the list `plain` states for each entry whether
-- its label may be written without quotation marks. Third, each item of the list `spelled` stores no bytes, or it
-- stores the written form of the label of the entry with the same index, followed by a comma and a space
-- (`AreSpelled`).
pub record AreReady (words : Words) : Type 0 where
  pub labels : All IsLabel (texts words.entries.items)
  pub plain : words.plain.items ≡ map is_plain (texts words.entries.items)
  pub spelled : AreSpelled (texts words.entries.items) words.spelled.items

-- `AreWords labels words` holds if `words` was correctly prepared for the label table `labels`. All three of the
-- following conditions must hold. First, the entries of `words` are the labels of the table, sorted by their bytes.
-- Second, the list `ranks` contains the position of each label in this order. Third, the labels in `words` are ready to
-- be written (`AreReady`).
pub record AreWords (labels : List (List ℕ)) (words : Words) : Type 0 where
  pub by_bytes : IsByBytes labels words.entries.items
  pub ranks : AreRanks words.entries.items (length words.entries.items) words.ranks.items
  pub ready : AreReady words

-- `from_pair entries source p` is the transition from the state `source` that the pair p represents. The pair contains
-- the rank of the label, which is the index of the label in the sorted list `entries`, and the target of the
-- transition.
abbrev pub from_pair : List Entry → ℕ → ℕ × ℕ → Transition
from_pair entries source p = record { source = source; label = text_of (texts entries) p.0; target = p.1 }
