use Rattle.rtcm_bits.proofs.Names.{◌∙◌, arith, number, length-uint, number-uint, uint-number, number-fits, number-split}
use Rattle.rtcm_bits.proofs.BitLemmas.{number-append}
use Rattle.rtcm_bits.proofs.laws.numbers.Goals as goal

pub returns-clause-width : goal.returns-clause-width
returns-clause-width c = length-uint

pub returns-clause-number : goal.returns-clause-number
returns-clause-number c = λ w n. number-uint w 0 n ∙ omega arith

pub returns-clause-bits : goal.returns-clause-bits
returns-clause-bits c = λ bits. uint-number bits 0

pub returns-clause-below : goal.returns-clause-below
returns-clause-below c = number-fits

pub returns-clause-joined : goal.returns-clause-joined
returns-clause-joined c = λ high low. number-append high low 0 ∙ number-split low (number high)
