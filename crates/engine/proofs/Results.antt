-- Results that differ.
use Rattle.engine.proofs.Names.{Bool, CaptureError, CaptureFault, Device, Err, Ok, Refused, Result, RunFault, false, true, ◌≡◌}
use Rattle.engine.specs.declared.fault.RunFault.TheVariants.{Memory}
use Rattle.pcap_io.specs.declared.fault.CaptureError.TheVariants as errors

pub no_error : {T E : Type 0} {x : T} {e : E} → Ok x ≡ Err e → ⊥
no_error is = cc

pub no_value : {T E : Type 0} {x : T} {e : E} → Err e ≡ Ok x → ⊥
no_value is = cc

pub no_device : {T S : Type 0} {r : Result T RunFault} {s : Result S RunFault} {fault : RunFault} → r ≡ Err fault → s ≡ Err fault
    → r ≡ Err Memory → s ≡ Err Device → ⊥
no_device was is memory device = cc

pub no_memory : {T : Type 0} {r : Result T RunFault} → r ≡ Err Device → r ≡ Err Memory → ⊥
no_memory device memory = cc

pub no_read : {T : Type 0} {r : Result T CaptureError} {fault : CaptureFault} → r ≡ Err (Refused fault) → r ≡ Err errors.Device → ⊥
no_read refused device = cc

-- one error of two results
pub same_error : {T S E : Type 0} {r : Result T E} {s : Result S E} {e f : E} → r ≡ Err e → s ≡ Err e → r ≡ Err f → s ≡ Err f
same_error was is other = cc

pub one_error : {T E : Type 0} {r : Result T E} {e f : E} → r ≡ Err e → r ≡ Err f → e ≡ f
one_error was is = cc

-- a record is taken or it isn't
pub not_taken : {E : Type 0} {taken : Bool} {result : Result Bool E} → result ≡ Ok taken → taken ≡ false → result ≡ Ok true → ⊥
not_taken is not went = cc
