-- `rate::signal_rate_limit_bits` meets its contract: Rust's quotient is the float of the word, which is no NaN.
use Rattle.rate.proofs.ReadBack.{quotient_bits, quotient_number}
use Rattle.rate.proofs.signal_rate_limit_bits.Goals as goal

pub float_to_bits-result : goal.float_to_bits-result
float_to_bits-result c = quotient_number _

pub returns : goal.returns
returns c = quotient_bits c.args.word c.ranges.word.fits
