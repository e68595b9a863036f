-- The k-step Bellman value in fractions: what the engine's whole numbers stand for (document 01, section 'Backup').
--
-- Definitions: fractions
--   Fraction, ratio, whole == numerator / denominator, of natural numbers; x / y; x / 1
--   Equal == neither denominator is 0, and the cross products are equal
--   plus, times == p + q, p · q
--   is_below, higher == p is below q, by the cross products; the higher of the two
--   highest_of, total_of == the highest and the sum over a list
--   highest_to, highest_tuples == the highest over the numbers below n; over all tuples of c objects
--
-- Definitions: the value
--   discounted == V0 is the reward's value; V(k+1)(s) = the reward's value + G / D · the best of the sums of weight / W · Vk(next state)
--
-- For proofs
--   Makes == n times a fraction is a natural number
--
-- Theorems
--   bellman-discounted: Mk is S^k times the k-step Bellman value with discount G / D and probabilities weight / W
--   bellman-over-scale: so Mk divided by S^k is that value
--   demand-3-discounted: after any list of backups, cuts and reductions, refused ones among them, the value diagram's number is S^k times that value, in every state
--   number-over-scale: its corollary, that number divided by S^k is the value
--   makes-plus, makes-part, makes-higher: x / n + y / n = (x + y) / n; g / d · y / n = g · y / (d · n); of x / n and y / n the higher is that of x and y
--   run-discounted: the values of document 01's run after one backup, by computation

-- definitions
pub mod Fraction
pub mod Discounted
