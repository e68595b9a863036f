-- Tests, comparisons and lists without repeats: what every layer's definitions and laws use.
--
-- Definitions
--   Cmp, cmp == two numbers compared, with the evidence: m < n, m ≡ n or n < m
--   mem == x is one of the list, by a test of equality
--   nub == the list with each element once: of equal ones the last
--   Within == every member of the first list is one of the second
--   Prefix == the second list is the first with more behind it
--
-- For proofs
--   Flag, flag == a test is true or false, with the equation
--   Either, either == which of two tests holds, where one of them does
--   IsTest == a test that tells equal things from others
--   NoDup, erase == no element is repeated; the list without the first x
--
-- Theorems
--   mem-nub: nub keeps the members of a list
--   nodup-nub: and repeats none
--   nodup-le: a list without repeats is no longer than a list that holds its members
--   nodup-count: a list without repeats that has the members of l is as long as nub l

pub mod Tests
pub mod Members
pub mod Prefix
