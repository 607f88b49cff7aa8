-- A census lists which states of a system are bisimilar, and which states are leaders (states that represent their
-- classes). This file contains censuses of example systems, some for strong bisimilarity and some for branching
-- bisimilarity. The function `is_census` checks that a census is correct.
use Rattle.std.proofs.Common.{[], ◌∷◌, slice_index}
use Rattle.tests_theory.proofs.Testing.Census.{Census}

abbrev pub unreachable_twin_strong : Census
unreachable_twin_strong = record {
  block = slice_index (0 ∷ 1 ∷ 2 ∷ 1 ∷ []);
  pairs = (0, 0) ∷ (1, 1) ∷ (1, 3) ∷ (2, 2) ∷ (3, 1) ∷ (3, 3) ∷ [];
  turns = 1;
  lead = slice_index (0 ∷ 3 ∷ 2 ∷ 3 ∷ []);
  leaders = 0 ∷ 2 ∷ 3 ∷ [];
}

abbrev pub first_leads_strong : Census
first_leads_strong = record {
  block = slice_index (0 ∷ 1 ∷ 0 ∷ 2 ∷ []);
  pairs = (0, 0) ∷ (0, 2) ∷ (1, 1) ∷ (2, 0) ∷ (2, 2) ∷ (3, 3) ∷ [];
  turns = 1;
  lead = slice_index (2 ∷ 1 ∷ 2 ∷ 3 ∷ []);
  leaders = 1 ∷ 2 ∷ 3 ∷ [];
}

abbrev pub first_in_cycle_strong : Census
first_in_cycle_strong = record {
  block = slice_index (0 ∷ 0 ∷ []);
  pairs = (0, 0) ∷ (0, 1) ∷ (1, 0) ∷ (1, 1) ∷ [];
  turns = 0;
  lead = slice_index (1 ∷ 1 ∷ []);
  leaders = 1 ∷ [];
}

abbrev pub first_is_two_strong : Census
first_is_two_strong = record {
  block = slice_index (0 ∷ 1 ∷ 2 ∷ []);
  pairs = (0, 0) ∷ (1, 1) ∷ (2, 2) ∷ [];
  turns = 1;
  lead = slice_index (0 ∷ 1 ∷ 2 ∷ []);
  leaders = 0 ∷ 1 ∷ 2 ∷ [];
}

abbrev pub two_equal_targets_strong : Census
two_equal_targets_strong = record {
  block = slice_index (0 ∷ 1 ∷ 1 ∷ []);
  pairs = (0, 0) ∷ (1, 1) ∷ (1, 2) ∷ (2, 1) ∷ (2, 2) ∷ [];
  turns = 1;
  lead = slice_index (0 ∷ 1 ∷ 1 ∷ []);
  leaders = 0 ∷ 1 ∷ [];
}

abbrev pub written_twice_strong : Census
written_twice_strong = record {
  block = slice_index (0 ∷ 1 ∷ []);
  pairs = (0, 0) ∷ (1, 1) ∷ [];
  turns = 1;
  lead = slice_index (0 ∷ 1 ∷ []);
  leaders = 0 ∷ 1 ∷ [];
}

abbrev pub unreachable_pair_strong : Census
unreachable_pair_strong = record {
  block = slice_index (0 ∷ 1 ∷ 0 ∷ []);
  pairs = (0, 0) ∷ (0, 2) ∷ (1, 1) ∷ (2, 0) ∷ (2, 2) ∷ [];
  turns = 1;
  lead = slice_index (0 ∷ 0 ∷ 0 ∷ []);
  leaders = 0 ∷ [];
}

abbrev pub chain_of_three_strong : Census
chain_of_three_strong = record {
  block = slice_index (0 ∷ 1 ∷ 2 ∷ 3 ∷ []);
  pairs = (0, 0) ∷ (1, 1) ∷ (2, 2) ∷ (3, 3) ∷ [];
  turns = 3;
  lead = slice_index (0 ∷ 1 ∷ 2 ∷ 3 ∷ []);
  leaders = 0 ∷ 1 ∷ 2 ∷ 3 ∷ [];
}

abbrev pub silent_cycle_branching : Census
silent_cycle_branching = record {
  block = slice_index (0 ∷ 0 ∷ []);
  pairs = (0, 0) ∷ (0, 1) ∷ (1, 0) ∷ (1, 1) ∷ [];
  turns = 0;
  lead = slice_index (0 ∷ 0 ∷ []);
  leaders = 0 ∷ [];
}

abbrev pub silent_cycle_strong : Census
silent_cycle_strong = record {
  block = slice_index (0 ∷ 1 ∷ []);
  pairs = (0, 0) ∷ (1, 1) ∷ [];
  turns = 1;
  lead = slice_index (0 ∷ 1 ∷ []);
  leaders = 0 ∷ 1 ∷ [];
}

abbrev pub silent_loop_branching : Census
silent_loop_branching = record {
  block = slice_index (0 ∷ []);
  pairs = (0, 0) ∷ [];
  turns = 0;
  lead = slice_index (0 ∷ []);
  leaders = 0 ∷ [];
}

abbrev pub silent_loop_strong : Census
silent_loop_strong = record {
  block = slice_index (0 ∷ []);
  pairs = (0, 0) ∷ [];
  turns = 0;
  lead = slice_index (0 ∷ []);
  leaders = 0 ∷ [];
}

abbrev pub silent_choice_branching : Census
silent_choice_branching = record {
  block = slice_index (0 ∷ 1 ∷ []);
  pairs = (0, 0) ∷ (1, 1) ∷ [];
  turns = 1;
  lead = slice_index (0 ∷ 1 ∷ []);
  leaders = 0 ∷ 1 ∷ [];
}

abbrev pub silent_chain_branching : Census
silent_chain_branching = record {
  block = slice_index (0 ∷ 0 ∷ 0 ∷ 1 ∷ []);
  pairs = (0, 0) ∷ (0, 1) ∷ (0, 2) ∷ (1, 0) ∷ (1, 1) ∷ (1, 2) ∷ (2, 0) ∷ (2, 1) ∷ (2, 2) ∷ (3, 3) ∷ [];
  turns = 3;
  lead = slice_index (0 ∷ 0 ∷ 0 ∷ 3 ∷ []);
  leaders = 0 ∷ 3 ∷ [];
}

abbrev pub silent_beside_branching : Census
silent_beside_branching = record {
  block = slice_index (0 ∷ 1 ∷ 2 ∷ 2 ∷ []);
  pairs = (0, 0) ∷ (1, 1) ∷ (2, 2) ∷ (2, 3) ∷ (3, 2) ∷ (3, 3) ∷ [];
  turns = 1;
  lead = slice_index (0 ∷ 1 ∷ 2 ∷ 2 ∷ []);
  leaders = 0 ∷ 1 ∷ 2 ∷ [];
}

abbrev pub silent_middle_branching : Census
silent_middle_branching = record {
  block = slice_index (0 ∷ 1 ∷ 1 ∷ 2 ∷ []);
  pairs = (0, 0) ∷ (1, 1) ∷ (1, 2) ∷ (2, 1) ∷ (2, 2) ∷ (3, 3) ∷ [];
  turns = 2;
  lead = slice_index (0 ∷ 1 ∷ 1 ∷ 3 ∷ []);
  leaders = 0 ∷ 1 ∷ 3 ∷ [];
}

abbrev pub silent_detour_branching : Census
silent_detour_branching = record {
  block = slice_index (0 ∷ 0 ∷ 1 ∷ 1 ∷ 1 ∷ 2 ∷ []);
  pairs = (0, 0) ∷ (0, 1) ∷ (1, 0) ∷ (1, 1) ∷ (2, 2) ∷ (2, 3) ∷ (2, 4) ∷ (3, 2) ∷ (3, 3) ∷ (3, 4) ∷ (4, 2) ∷ (4, 3)
      ∷ (4, 4) ∷ (5, 5) ∷ [];
  turns = 2;
  lead = slice_index (0 ∷ 0 ∷ 2 ∷ 2 ∷ 2 ∷ 5 ∷ []);
  leaders = 0 ∷ 2 ∷ 5 ∷ [];
}

abbrev pub silent_detour_strong : Census
silent_detour_strong = record {
  block = slice_index (0 ∷ 1 ∷ 2 ∷ 3 ∷ 3 ∷ 4 ∷ []);
  pairs = (0, 0) ∷ (1, 1) ∷ (2, 2) ∷ (3, 3) ∷ (3, 4) ∷ (4, 3) ∷ (4, 4) ∷ (5, 5) ∷ [];
  turns = 1;
  lead = slice_index (0 ∷ 1 ∷ 2 ∷ 3 ∷ 3 ∷ 5 ∷ []);
  leaders = 0 ∷ 1 ∷ 2 ∷ 3 ∷ 5 ∷ [];
}

abbrev pub hidden_middle_branching : Census
hidden_middle_branching = record {
  block = slice_index (0 ∷ 0 ∷ 1 ∷ []);
  pairs = (0, 0) ∷ (0, 1) ∷ (1, 0) ∷ (1, 1) ∷ (2, 2) ∷ [];
  turns = 2;
  lead = slice_index (0 ∷ 0 ∷ 2 ∷ []);
  leaders = 0 ∷ 2 ∷ [];
}

abbrev pub hidden_middle_strong : Census
hidden_middle_strong = record {
  block = slice_index (0 ∷ 1 ∷ 2 ∷ []);
  pairs = (0, 0) ∷ (1, 1) ∷ (2, 2) ∷ [];
  turns = 1;
  lead = slice_index (0 ∷ 1 ∷ 2 ∷ []);
  leaders = 0 ∷ 1 ∷ 2 ∷ [];
}
