pub mod Spellings
mod Interpreter
mod HookInterpreter
mod ComputedHooks
